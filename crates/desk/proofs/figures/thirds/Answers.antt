use Rattle.std.proofs.Common.{◌≡◌, Err, refl, sym, ap, ◌∙◌, subst, inr}
use Rattle.std.proofs.lemmas.Result.{err_from_is_err_and}
use Rattle.numbers.specs.Checks.{Answered}
use Rattle.assess.specs.Refusals.{number_of, place_of}
use Rattle.desk.specs.Thirds.{thirds_checks, thirds_by}
use Rattle.desk.proofs.Bills.{refused_bill, accepted_bill, asked_thirds, met_bill}
use Rattle.desk.proofs.figures.thirds.Goals as goal

pub returns-in_err-settle-clause-answer : goal.returns-in_err-settle-clause-answer
returns-in_err-settle-clause-answer g c =
    let rule = g.R.SharingRule.meaning c.args.rule.now in
    let p = err_from_is_err_and c.from_residual-in_err-settle.result c.from_residual-in_err-settle.ensures.1 in
    subst (λ r. Answered (thirds_checks c.args.book.now c.args.load) number_of place_of (λ v. v ≡ thirds_by rule c.args.load) r) (sym (p.1 ∙ ap Err p.2))
    (inr (c.in_ok-open.ensures.fits, refused_bill _ rule c.args.load c.in_ok-open.ensures.opened _ _ _ c.in_err-settle.ensures.moves.step.says))

pub returns-clause-answer : goal.returns-clause-answer
returns-clause-answer g c =
    let rule = g.R.SharingRule.meaning c.args.rule.now in
    let o = c.in_ok-open.ensures.opened in
    let s = c.in_ok-settle.ensures.moves.step in
    let range = accepted_bill _ rule c.args.load o s.says in
    let all = asked_thirds _ rule c.args.load o _ s c.balances.result c.balances.ensures in
    subst (λ r. Answered (thirds_checks c.args.book.now c.args.load) number_of place_of (λ v. v ≡ thirds_by rule c.args.load) r) (sym all)
    ((c.in_ok-open.ensures.fits, ((λ k h. range.0), (range.1, tt))), refl)

pub returns-clause-met : goal.returns-clause-met
returns-clause-met g c fits = met_bill _ (g.R.SharingRule.meaning c.args.rule.now) c.args.load c.in_ok-open.ensures.opened _ _ c.in_ok-settle.ensures.moves.step

pub returns-in_err-settle-clause-met : goal.returns-in_err-settle-clause-met
returns-in_err-settle-clause-met g c fits = met_bill _ (g.R.SharingRule.meaning c.args.rule.now) c.args.load c.in_ok-open.ensures.opened _ _ c.in_err-settle.ensures.moves.step
