-- What the sum over a party's slots goes over.
use Rattle.std.proofs.Common.{◌≡◌, ℕ, zero, suc, ◌+◌, ◌-◌, ◌*◌, true, false, cond, List, get_or, slice_index_or, ℤ, pos, ◌+ℤ◌, refl, ap, sym, ◌∙◌, add-one, arith}
use Rattle.std.proofs.Math.Nat.{suc-mul}
use Rattle.std.proofs.lemmas.Int.{ints}
use Rattle.law.specs.Settlements.{over}
use Rattle.book.specs.declared.rows.Slot.{Slot}
use Rattle.book.specs.declared.rows.Entry.{Entry}
use Rattle.book.specs.Model.{off, blank}

-- the sum of f over 0, 1, .. n - 1
abbrev pub below : ℕ → (ℕ → ℤ) → ℤ
below zero f = pos 0
below (suc n) f = below n f +ℤ f n

pub below_next : (n : ℕ) (f : ℕ → ℤ) → below (n + 1) f ≡ below n f +ℤ f n
below_next n f = rw add-one refl

-- one more row of m places
below_row : (a m : ℕ) (f : ℕ → ℤ) → below (a + m) f ≡ below a f +ℤ over m (λ i. f (a + (i - 1)))
below_row a zero f = let same : a + 0 ≡ a = omega arith in let e = ap (λ x. below x f) same in omega (arith, ints, e)
below_row a (suc m) f =
    let rest = below_row a m f in
    let one : a + suc m ≡ (a + m) + 1 = omega arith in
    let more = ap (λ x. below x f) one ∙ below_next (a + m) f in
    let place : a + (suc m - 1) ≡ a + m = omega arith in
    let last = ap f place in
    omega (arith, ints, rest, more, last)

-- r rows of m places each are so many places
pub below_rows : (r m : ℕ) (f : ℕ → ℤ) → over r (λ t. over m (λ i. f ((t - 1) * m + (i - 1)))) ≡ below (r * m) f
below_rows zero m f = let none : 0 * m ≡ 0 = omega arith in sym (ap (λ x. below x f) none)
below_rows (suc r) m f =
    let rest = below_rows r m f in
    let row = below_row (r * m) m f in
    let whole = ap (λ x. below x f) (suc-mul r m) in
    let place : suc r - 1 ≡ r = omega arith in
    let last = ap (λ x. over m (λ i. f (x * m + (i - 1)))) place in
    omega (arith, ints, rest, row, whole, last)

-- what a party's balance takes from the slot at this place
abbrev pub taken : ℕ → ℕ → List Slot → List Entry → ℕ → ℤ
taken parties party slots entries at = cond (get_or slots at off).stands ((slice_index_or entries (at * parties + (party - 1)) blank).paid +ℤ (slice_index_or entries (at * parties + (party - 1)) blank).charged) (pos 0)

pub taken_on : (n p : ℕ) (slots : List Slot) (entries : List Entry) (at : ℕ) → (get_or slots at off).stands ≡ true → taken n p slots entries at ≡ (slice_index_or entries (at * n + (p - 1)) blank).paid +ℤ (slice_index_or entries (at * n + (p - 1)) blank).charged
taken_on n p slots entries at e = rw e refl

pub taken_off : (n p : ℕ) (slots : List Slot) (entries : List Entry) (at : ℕ) → (get_or slots at off).stands ≡ false → taken n p slots entries at ≡ pos 0
taken_off n p slots entries at e = rw e refl
