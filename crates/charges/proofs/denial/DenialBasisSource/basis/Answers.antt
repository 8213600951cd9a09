use Rattle.charges.specs.Denial.{denied_entry}
use Rattle.charges.specs.Settings.{held_by}
use Rattle.charges.specs.SourceLaws.{based_layered}
use Rattle.charges.proofs.denial.DenialBasisSource.basis.Goals as goal

pub returns-clause-based : goal.returns-clause-based
returns-clause-based g c =
    let self = c.args.self.now in
    based_layered (denied_entry (held_by self.table)) (g.S.LineSource.lines self.below) c.args.n c.basis.result c.basis.ensures.based
