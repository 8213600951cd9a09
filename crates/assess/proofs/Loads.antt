-- The check of the loads: the first that is too large, or none.
use Rattle.std.proofs.Common.{◌≡◌, ℕ, zero, suc, ◌+◌, ◌<◌, ◌≤◌, true, false, leb, List, [], ◌∷◌, length, get_or, None, refl, zero-add, arith}
use Rattle.std.proofs.lemmas.Bool.{le-leb, lt-leb}
use Rattle.law.specs.Steps.{clear, loads_from, raises}

pub loads_until : (p i : ℕ) (xs : List ℕ) → i < length xs → 20000000 < get_or xs i 0 → ((k : ℕ) → k < i → get_or xs k 0 ≤ 20000000) → loads_from p xs ≡ raises 32 (i + p) None
loads_until p i [] lt big small = absurd (omega arith)
loads_until p zero (x ∷ xs) lt big small = let q : leb x 20000000 ≡ false = lt-leb x 20000000 big in rw (q, zero-add)
loads_until p (suc i) (x ∷ xs) lt big small =
    let q : leb x 20000000 ≡ true = le-leb x 20000000 (small 0 (omega arith)) in
    let n : i + suc p ≡ suc i + p = omega arith in
    rw (q, ← n) (loads_until (suc p) i xs (omega arith) big (λ k h. small (suc k) (omega arith)))

pub loads_none : (p : ℕ) (xs : List ℕ) → ((k : ℕ) → k < length xs → get_or xs k 0 ≤ 20000000) → loads_from p xs ≡ clear
loads_none p [] small = refl
loads_none p (x ∷ xs) small =
    let q : leb x 20000000 ≡ true = le-leb x 20000000 (small 0 (omega arith)) in
    rw q (loads_none (suc p) xs (λ k h. small (suc k) (omega arith)))
