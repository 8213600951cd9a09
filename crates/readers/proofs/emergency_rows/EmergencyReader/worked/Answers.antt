use Rattle.std.proofs.Common.{ap, ◌∙◌}
use Rattle.readers.specs.Emergency.{fault_at}
use Rattle.readers.specs.EmergencyLaws.{emergency_cased}
use Rattle.readers.specs.Lines.{line_from, basis_from}
use Rattle.readers.proofs.emergency_rows.EmergencyReader.worked.Goals as goal

pub invariant_of-result : goal.invariant_of-result
invariant_of-result c =
    let reader = c.args.self.now in
    let row = c.args.row.now in
    let line = c.line_of.ensures ∙ ap (line_from (λ paid. paid.amount) (fault_at c.args.n) row.resource row.party) c.payment-payment.ensures in
    let basis = c.basis_of.ensures ∙ ap (basis_from (λ paid. paid.basis)) c.payment-payment.ensures in
    let cased = emergency_cased reader.quarter reader.curves.records.now c.args.n row c.line_of.result c.basis_of.result line basis in
    record { ranged = cased.0; rests = cased.1; none = cased.2 }
