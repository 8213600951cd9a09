-- A party's sum among those of all.
use Rattle.std.proofs.Common.{◌≡◌, ℕ, ◌-◌, List, get_or, pos, arith}
use Rattle.std.proofs.lemmas.List.FromFn.{get_or-map-range_with_len}
use Rattle.walk.specs.Totals.{sum_for, party_sums}
use Rattle.charges.specs.Lines.{Line}
use Rattle.law.specs.Settlements.{Among}

pub sum_at : (parties : ℕ) (ls : List Line) (p : ℕ) → Among p parties → get_or (party_sums parties ls) (p - 1) (pos 0) ≡ sum_for p ls
sum_at parties ls p h = get_or-map-range_with_len (λ q. sum_for q ls) 1 parties (p - 1) p (pos 0) (omega arith) (omega arith)
