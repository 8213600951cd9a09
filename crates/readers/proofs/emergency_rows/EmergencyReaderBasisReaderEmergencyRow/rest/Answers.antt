use Rattle.std.proofs.Common.{◌≡◌, rules, sym, subst}
use Rattle.charges.specs.Lines.{Based}
use Rattle.quarters.specs.Quarters.{slices_of}
use Rattle.readers.specs.Emergency.{emergency_line, emergency_basis}
use Rattle.readers.specs.EmergencyLaws.{emergency_based}
use Rattle.readers.proofs.emergency_rows.EmergencyReaderBasisReaderEmergencyRow.rest.Goals as goal

pub returns-clause-based : goal.returns-clause-based
returns-clause-based c =
    let q = c.args.self.now.quarter in
    let curves = c.args.self.now.curves.records.now in
    let is : c.basis_of.result ≡ emergency_basis (slices_of q) curves c.args.row.now = search rules in
    subst (Based (emergency_line (slices_of q) curves c.args.n c.args.row.now)) (sym is) (emergency_based q curves c.args.n c.args.row.now)
