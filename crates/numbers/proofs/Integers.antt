-- Products of integers with naturals, in the form that omega takes them: sums of one product of naturals.
use Rattle.std.proofs.Common.{◌≡◌, ℕ, zero, suc, ◌+◌, ◌-◌, ◌*◌, ◌≤◌, true, false, ℤ, pos, negsuc, ◌+ℤ◌, ◌-ℤ◌, ◌*ℤ◌, neg_ℤ, nat_abs, ◌≤ℤ◌, ◌<ℤ◌, sym, refl, mul-le-mul_right, zero-mul, arith}
use lib.Signed.{lt_z}
use borrow.Author.Differences.{ints, up, down}
use Rattle.numbers.specs.Signs.{signed_by}

-- an integer times a natural: each part by itself
pub scaled : (r : ℤ) (d : ℕ) → (up (r *ℤ pos d) ≡ up r * d) × (down (r *ℤ pos d) ≡ down r * d)
scaled (pos n) d = (refl, sym (zero-mul d))
scaled (negsuc n) d = omega (arith, ints)

-- the two signs of a magnitude
pub parts_neg : (h : ℕ) → (up (neg_ℤ (pos h)) ≡ 0) × (down (neg_ℤ (pos h)) ≡ h)
parts_neg h = omega (arith, ints)

pub neg_scaled : (h d : ℕ) → neg_ℤ (pos h) *ℤ pos d ≡ neg_ℤ (pos (h * d))
neg_scaled zero d = omega (arith, ints, zero-mul d)
neg_scaled (suc h) d = refl

-- an order of integers, times a natural
pub scaled_le : (r s : ℤ) (d : ℕ) → r ≤ℤ s → (r *ℤ pos d) ≤ℤ (s *ℤ pos d)
scaled_le r s d h =
    let e : up r + down s ≤ up s + down r = omega (arith, ints) in
    omega (arith, ints, scaled r d, scaled s d, mul-le-mul_right d e)

-- and a gap of at least one
pub scaled_lt : (r s : ℤ) (d : ℕ) → r <ℤ s → (r *ℤ pos d +ℤ pos d) ≤ℤ (s *ℤ pos d)
scaled_lt r s d h =
    let e : up r + down s + 1 ≤ up s + down r = omega (arith, ints) in
    omega (arith, ints, scaled r d, scaled s d, mul-le-mul_right d e)

-- a sign put back
pub signed_neg : (z : ℤ) (m : ℕ) → z <ℤ pos 0 → signed_by z m ≡ neg_ℤ (pos m)
unfolding signed_by
signed_neg (pos n) m h = omega (arith, ints)
signed_neg (negsuc n) m h = refl

pub signed_pos : (z : ℤ) (m : ℕ) → pos 0 ≤ℤ z → signed_by z m ≡ pos m
unfolding signed_by
signed_pos (pos n) m h = refl
signed_pos (negsuc n) m h = omega (arith, ints)

pub signed_zero : (z : ℤ) → signed_by z 0 ≡ pos 0
unfolding signed_by
signed_zero (pos n) = refl
signed_zero (negsuc n) = refl

pub signed_add : (z : ℤ) (a b : ℕ) → signed_by z a +ℤ signed_by z b ≡ signed_by z (a + b)
unfolding signed_by
signed_add (pos n) a b = refl
signed_add (negsuc n) a b = omega (arith, ints)

-- the number itself
pub signed_self : (z : ℤ) → signed_by z (nat_abs z) ≡ z
unfolding signed_by
signed_self (pos n) = refl
signed_self (negsuc n) = refl

pub abs_signed : (z : ℤ) (m : ℕ) → nat_abs (signed_by z m) ≡ m
unfolding signed_by
abs_signed (pos n) m = refl
abs_signed (negsuc n) m = omega (arith, ints)

-- how far w * l is from z * s, by magnitudes
pub signed_gap : (z : ℤ) (w l s : ℕ) → nat_abs (signed_by z w *ℤ pos l -ℤ z *ℤ pos s) ≡ (w * l - nat_abs z * s) + (nat_abs z * s - w * l)
unfolding signed_by
signed_gap (pos n) w l s = omega (arith, ints)
signed_gap (negsuc n) w l s = rw neg_scaled (omega (arith, ints))

pub abs_scaled : (r : ℤ) (d : ℕ) → nat_abs (r *ℤ pos d) ≡ nat_abs r * d
abs_scaled (pos n) d = refl
abs_scaled (negsuc n) d = omega (arith, ints)

-- the magnitude of a product
pub abs_times : (a b : ℤ) → nat_abs (a *ℤ b) ≡ nat_abs a * nat_abs b
abs_times a (pos n) = abs_scaled a n
abs_times (pos m) (negsuc n) = abs_neg (m * suc n)
  where
    abs_neg : (k : ℕ) → nat_abs (neg_ℤ (pos k)) ≡ k
    abs_neg k = omega (arith, ints)
abs_times (negsuc m) (negsuc n) = refl

-- what tests of integers tell
pub lt_z_true : (x y : ℤ) → lt_z x y ≡ true → x <ℤ y
lt_z_true x y e = grind (arith, ints)

pub lt_z_false : (x y : ℤ) → lt_z x y ≡ false → y ≤ℤ x
lt_z_false x y e = grind (arith, ints)
