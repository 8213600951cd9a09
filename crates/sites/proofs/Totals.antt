-- One slice more in the weighed price of a bus.
use Rattle.std.proofs.Common.{◌≡◌, ℕ, ◌+◌, ◌*◌, ◌<◌, ◌≤◌, List, length, map, get_or, take, sum, ℤ, pos, ◌+ℤ◌, ◌*ℤ◌, nat_abs, ◌∙◌, zero-add, mul-le-mul_right, arith, w64, to_z, of_z}
use borrow.Author.Differences.{ints}
use Rattle.std.specs.List.{range_with_len}
use Rattle.std.proofs.lemmas.List.FromFn.{map-range_with_len_more}
use Rattle.std.proofs.lemmas.List.Sums.{fold_push, sum_by_more, sum_by_more_le}
use Rattle.numbers.specs.Sums.{signed_total}
use Rattle.numbers.proofs.Integers.{abs_scaled}

pub scaled_small : (p : ℤ) (n most : ℕ) → nat_abs p ≤ most → nat_abs (p *ℤ pos n) ≤ most * n
scaled_small p n most small = omega (arith, abs_scaled p n, mul-le-mul_right n small)

-- no slice goes beyond the quarter hour
pub within_hour : (xs : List ℕ) (i : ℕ) → sum xs ≡ 900 → i < length xs → sum (take i xs) + get_or xs i 0 ≤ 900
within_hour xs i whole h = omega (arith, sum_by_more_le (λ x. x) xs i 0 h)

-- the total with one term more, as the bits hold it
pub slice_more : (f : ℕ → ℤ) (xs : List ℕ) (i : ℕ) (a z : ℤ) → sum xs ≡ 900 → i < length xs → (a ≡ signed_total (map f (range_with_len 0 i))) × (nat_abs a ≤ 3000000 * sum (take i xs)) →
    z ≡ f i → nat_abs z ≤ 3000000 * get_or xs i 0 →
    (to_z w64 (of_z w64 (a +ℤ to_z w64 (of_z w64 z))) ≡ signed_total (map f (range_with_len 0 (i + 1)))) × (nat_abs (to_z w64 (of_z w64 (a +ℤ to_z w64 (of_z w64 z)))) ≤ 3000000 * sum (take (i + 1) xs))
slice_more f xs i a z whole h so_far is small =
    let clear : to_z w64 (of_z w64 (a +ℤ to_z w64 (of_z w64 z))) ≡ a +ℤ z = omega (arith, ints, within_hour xs i whole h) in (
      clear ∙ rw (map-range_with_len_more f 0 i i (zero-add i), fold_push (λ b x. b +ℤ x) (pos 0) (map f (range_with_len 0 i)) (f i), ← so_far.0, is),
      rw clear (omega (arith, ints, sum_by_more (λ x. x) xs i 0 h)),
    )
