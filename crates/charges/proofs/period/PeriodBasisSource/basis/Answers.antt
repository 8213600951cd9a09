use Rattle.charges.specs.Period.{period_entry}
use Rattle.charges.specs.SourceLaws.{based_layered}
use Rattle.charges.proofs.period.PeriodBasisSource.basis.Goals as goal

pub returns-clause-based : goal.returns-clause-based
returns-clause-based g c =
    let self = c.args.self.now in
    based_layered (period_entry self.state) (g.S.LineSource.lines self.below) c.args.n c.basis.result c.basis.ensures.based
