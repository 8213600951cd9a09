use Rattle.std.proofs.Common.{Err, ap, ◌∙◌}
use Rattle.std.proofs.lemmas.Result.{err_from_is_err_and}
use Rattle.assess.specs.Refusals.{raised}
use Rattle.assess.specs.Slots.{type_number}
use Rattle.assess.proofs.Firsts.{stopped_early}
use Rattle.book.specs.Books.{model}
use Rattle.book.proofs.ledger.Book.checked.Goals as goal

pub returns-in_err-check_front-clause-checks : goal.returns-in_err-check_front-clause-checks
returns-in_err-check_front-clause-checks g c =
    let b = c.args.self.now in
    let t = type_number c.args.slot.charge_type in
    let i = c.args.slot.interval in
    let p = err_from_is_err_and c.from_residual.result c.from_residual.ensures.1 in
    ap raised (p.1 ∙ ap Err p.2) ∙ stopped_early b.parties b.intervals ((model b).stands t i) c.args.wanted t i c.args.loads.now (g.S.LineSource.lines c.args.source.now) _ _ _ c.in_err-check_front.ensures.checks
