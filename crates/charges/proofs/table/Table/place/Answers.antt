use Rattle.std.proofs.Common.{ℕ, ◌==◌, position, sym, ap, subst, ◌∙◌, ⊎_elim, arith}
use Rattle.charges.specs.Table.{FreeFrom}
use Rattle.charges.proofs.Places.{none_among_free, none_at_zero, position_numbered}
use Rattle.charges.proofs.table.Table.place.Goals as goal

pub returns-then-self-eq0 : goal.returns-then-self-eq0
returns-then-self-eq0 c =
    let t = c.args.self.now in
    ⊎_elim
    (λ e. sym (none_among_free t.rows c.args.resource (subst (λ (n : ℕ). FreeFrom n t.rows) e t.rest)))
    (λ e. sym (none_at_zero t.rows c.args.resource t.known e.1))
    c.then-self-eq0.either

pub returns : goal.returns
returns c =
    let t = c.args.self.now in
    c.place_among.ensures ∙ ap (position (λ n. n == c.args.resource)) t.numbered ∙ position_numbered t.rows c.args.resource (omega arith)
