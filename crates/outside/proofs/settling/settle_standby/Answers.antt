use Rattle.std.proofs.Common.{Err, ap, ◌∙◌, subst}
use Rattle.std.proofs.lemmas.Result.{err_from_is_err_and}
use Rattle.charges.specs.Settings.{held_by}
use Rattle.book.specs.Books.{model}
use Rattle.outside.specs.Seasons.{listed, seasonal}
use Rattle.outside.specs.Fees.{FeesSettled}
use Rattle.outside.proofs.Fees.{same_fees, fees_refused, fees_settled}
use Rattle.outside.proofs.settling.settle_standby.Goals as goal

pub returns-in_err-settle : goal.returns-in_err-settle
returns-in_err-settle c =
    let rule = seasonal (listed c.args.rule.months.now c.args.rule.month) in
    let p = err_from_is_err_and c.from_residual-in_err-settle.result c.from_residual-in_err-settle.ensures.1 in
    let same = same_fees c.args.loads.now c.over-source.result.state (held_by c.over-source.result.below.table) c.over-source.result.below.below c.args.standby rule
    c.over-source.ensures.state (ap (λ x. held_by x.table) c.over-source.ensures.below ∙ c.over.ensures.none) (ap (λ x. x.below) c.over-source.ensures.below ∙ c.over.ensures.below) in
    subst (λ s. FeesSettled s c.args.book.now c.from_residual-in_err-settle.result c.settle.new.self) same
    (fees_refused (model c.open.new.self) c.settle.new.self _ c.in_ok-open.ensures.opened c.args.book.now c.from_residual-in_err-settle.result _ (p.1 ∙ ap Err p.2) c.in_err-settle.ensures.moves.step)

pub returns : goal.returns
returns c =
    let rule = seasonal (listed c.args.rule.months.now c.args.rule.month) in
    let same = same_fees c.args.loads.now c.over-source.result.state (held_by c.over-source.result.below.table) c.over-source.result.below.below c.args.standby rule
    c.over-source.ensures.state (ap (λ x. held_by x.table) c.over-source.ensures.below ∙ c.over.ensures.none) (ap (λ x. x.below) c.over-source.ensures.below ∙ c.over.ensures.below) in
    subst (λ s. FeesSettled s c.args.book.now c.balances.result c.settle.new.self) same
    (fees_settled (model c.open.new.self) c.settle.new.self _ c.in_ok-open.ensures.opened c.args.book.now c.balances.result c.in_ok-settle.ensures.moves.step c.balances.ensures)
