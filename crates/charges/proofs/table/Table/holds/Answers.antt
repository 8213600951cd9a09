use Rattle.std.proofs.Common.{ℕ, ◌==◌, is_some, sym, ap, subst, ◌∙◌, ⊎_elim, arith}
use Rattle.std.specs.List.{list_any}
use Rattle.charges.specs.Table.{FreeFrom}
use Rattle.charges.proofs.Places.{any_numbered, no_place, none_among_free, none_at_zero}
use Rattle.charges.proofs.table.Table.holds.Goals as goal

pub returns-then-self-eq0 : goal.returns-then-self-eq0
returns-then-self-eq0 c =
    let t = c.args.self.now in
    let none = ⊎_elim
    (λ e. none_among_free t.rows c.args.resource (subst (λ (n : ℕ). FreeFrom n t.rows) e t.rest))
    (λ e. none_at_zero t.rows c.args.resource t.known e.1)
    c.then-self-eq0.either in
    sym (ap is_some (no_place t.rows c.args.resource none))

pub returns : goal.returns
returns c =
    let t = c.args.self.now in
    c.is_among.ensures ∙ ap (list_any (λ n. n == c.args.resource)) t.numbered ∙ any_numbered t.rows c.args.resource (omega arith)
