use Rattle.std.proofs.Common.{inl, inr}
use Rattle.std.proofs.lemmas.Result.{err_from_is_err_and}
use Rattle.curves.proofs.curve.checks.SoundRow.of.Goals as goal

pub returns-in_err-powers : goal.returns-in_err-powers
returns-in_err-powers c =
    let p = err_from_is_err_and c.from_residual-in_err-powers.result c.from_residual-in_err-powers.ensures.1 in
    rw (p.1, p.2) (inr (c.in_ok-counted.ensures, inl c.in_err-powers.ensures))

pub returns-in_err-prices : goal.returns-in_err-prices
returns-in_err-prices c =
    let p = err_from_is_err_and c.from_residual-in_err-prices.result c.from_residual-in_err-prices.ensures.1 in
    rw (p.1, p.2) (inr (c.in_ok-counted.ensures, inr (c.in_ok-powers.ensures, inl c.in_err-prices.ensures)))
