-- What it says of a number that it is not outside a range, and of a list that none of its numbers is.
use Rattle.std.proofs.Common.{◌≡◌, ℕ, ◌<◌, ◌≤◌, Bool, false, List, [], ◌∷◌, length, get_or, take, ℤ, pos, neg_ℤ, nat_abs, ◌≤ℤ◌, sym, subst, ⊎_elim, arith}
use borrow.Author.Differences.{ints}
use lib.Signed.{lt_z}
use Rattle.std.specs.List.{AllByRecursion, list_any}
use Rattle.std.proofs.ByRecursion.{All-get_or}
use Rattle.std.proofs.lemmas.List.{get_or-take, get_or_past}
use Rattle.std.proofs.lemmas.Bool.{cases_lt, or_parts}
use Rattle.numbers.specs.Ranges.{outside, strays, Small}
use Rattle.numbers.proofs.Integers.{lt_z_false}

pub inside : (low high x : ℤ) → outside low high x ≡ false → (low ≤ℤ x) × (x ≤ℤ high)
inside low high x e = let p = or_parts (lt_z x low) (lt_z high x) e in (lt_z_false x low p.0, lt_z_false high x p.1)

-- a search that found none passed each
pub none_of : {X : Type 0} (p : X → Bool) (xs : List X) → list_any p xs ≡ false → AllByRecursion (λ x. p x ≡ false) xs
none_of p [] e = tt
none_of p (x ∷ xs) e = let parts = or_parts (p x) (list_any p xs) e in (parts.0, none_of p xs parts.1)

-- so the first m numbers stay within a limit that both ends keep
pub all_small : (low high : ℤ) (most m : ℕ) (xs : List ℤ) → neg_ℤ (pos most) ≤ℤ low → high ≤ℤ pos most → strays low high (take m xs) ≡ false → Small most m xs
all_small low high most m xs least greatest e k h =
    ⊎_elim
    (λ lt. let all = none_of (outside low high) (take m xs) e in
    let here = All-get_or (λ b. outside low high b ≡ false) (take m xs) k (pos 0) lt all in
    let w = inside low high (get_or (take m xs) k (pos 0)) here in
    let small : nat_abs (get_or (take m xs) k (pos 0)) ≤ most = omega (arith, ints) in
    subst (λ z. nat_abs z ≤ most) (get_or-take m xs k (pos 0) h) small)
    (λ past. let z : nat_abs (get_or (take m xs) k (pos 0)) ≤ most = subst (λ y. nat_abs y ≤ most) (sym (get_or_past (take m xs) k (pos 0) past)) (omega arith) in
    subst (λ y. nat_abs y ≤ most) (get_or-take m xs k (pos 0) h) z)
    (cases_lt k (length (take m xs)))
