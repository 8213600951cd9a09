-- The laws that callers use. They follow from the distance of half a unit alone, wherever a half goes.
use Rattle.std.proofs.Common.{◌≡◌, ℕ, zero, suc, ◌+◌, ◌-◌, ◌*◌, ◌/◌, ◌%◌, ◌<◌, ◌≤◌, ℤ, pos, negsuc, ◌-ℤ◌, ◌*ℤ◌, neg_ℤ, nat_abs, ◌≤ℤ◌, ◌<ℤ◌, sym, refl, div-add-mod', le-mul_of_pos_right, arith}
use borrow.Author.Differences.{ints}
use lib.IntN.{neg_ℤ-neg_ℤ}
use lib.Signed.{≤ℤ_refl}
use Rattle.std.proofs.lemmas.Int.{by_lt_z}
use Rattle.numbers.specs.Signs.{signed_by}
use Rattle.numbers.proofs.Integers.{neg_scaled, scaled_lt}
use Rattle.rounding.specs.Nearest.{nearest_magnitude, nearest_to, Nearest, Lawful}
use Rattle.rounding.proofs.HalfLaws.{half_named, half_one}
use Rattle.rounding.proofs.Magnitudes.{level, near, half_only, magnitude_zero}

-- how far a magnitude with the sign of z is from z, in units of 1 / d
gap : (z : ℤ) (m d : ℕ) → nat_abs (signed_by z m *ℤ pos d -ℤ z) ≡ (m * d - nat_abs z) + (nat_abs z - m * d)
unfolding signed_by
gap (pos n) m d = omega (arith, ints)
gap (negsuc n) m d = rw neg_scaled (omega (arith, ints))

-- the definition is what the words say
pub nearest_is : (n : ℤ) (d : ℕ) → 0 < d → Nearest n d (nearest_to n d)
unfolding nearest_to
nearest_is n d pd =
    let m : ℕ = nearest_magnitude (nat_abs n) d in
    let away = near (nat_abs n) d pd in
    record {
      close = rw (gap n m d) (omega arith);
      half = λ e.
          let h : 2 * (nat_abs n % d) ≡ d = half_only (nat_abs n) d pd (rw (gap n m d) at e) in
          rw (level (nat_abs n) d h) (half_named n d (nat_abs n / d) (nat_abs n % d) pd (sym (div-add-mod' (nat_abs n) d)) h);
    }

-- what no more than half a unit away gives, wherever a half goes
module _ (a r : ℤ) (d : ℕ) (pd : 0 < d) (p : 2 * nat_abs (r *ℤ pos d -ℤ a) ≤ d) where
  -- the order of quotients
  pub close_mono : (b s : ℤ) → 2 * nat_abs (s *ℤ pos d -ℤ b) ≤ d → a <ℤ b → r ≤ℤ s
  close_mono b s q h = by_lt_z s r (λ k. omega (arith, ints, scaled_lt s r d k)) (λ k. k)

  -- within the limits of the quotient
  pub close_low : (q : ℤ) → (q *ℤ pos d) ≤ℤ a → q ≤ℤ r
  close_low q h = by_lt_z r q (λ k. omega (arith, ints, scaled_lt r q d k)) (λ k. k)

  pub close_high : (q : ℤ) → a ≤ℤ (q *ℤ pos d) → r ≤ℤ q
  close_high q h = by_lt_z q r (λ k. omega (arith, ints, scaled_lt q r d k)) (λ k. k)

-- the laws of `nearest_to`
pub nearest_low : (n : ℤ) (d : ℕ) (q : ℤ) → 0 < d → (q *ℤ pos d) ≤ℤ n → q ≤ℤ nearest_to n d
nearest_low n d q pd h = close_low n (nearest_to n d) d pd (nearest_is n d pd).close q h

pub nearest_high : (n : ℤ) (d : ℕ) (q : ℤ) → 0 < d → n ≤ℤ (q *ℤ pos d) → nearest_to n d ≤ℤ q
nearest_high n d q pd h = close_high n (nearest_to n d) d pd (nearest_is n d pd).close q h

pub nearest_exact : (q : ℤ) (d : ℕ) → 0 < d → nearest_to (q *ℤ pos d) d ≡ q
nearest_exact q d pd =
    omega (arith, ints, nearest_low (q *ℤ pos d) d q pd (≤ℤ_refl (q *ℤ pos d)), nearest_high (q *ℤ pos d) d q pd (≤ℤ_refl (q *ℤ pos d)))

pub nearest_mono : (a b : ℤ) (d : ℕ) → 0 < d → a ≤ℤ b → nearest_to a d ≤ℤ nearest_to b d
nearest_mono a b d pd h = by_lt_z a b
    (λ k. close_mono a (nearest_to a d) d pd (nearest_is a d pd).close b (nearest_to b d) (nearest_is b d pd).close k)
    (λ k. let e : a ≡ b = omega (arith, ints) in rw e (≤ℤ_refl (nearest_to b d)))

pub nearest_neg : (n : ℤ) (d : ℕ) → 0 < d → nearest_to (neg_ℤ n) d ≡ neg_ℤ (nearest_to n d)
unfolding nearest_to signed_by
nearest_neg (pos zero) d pd = rw (magnitude_zero d pd)
nearest_neg (pos (suc n)) d pd = refl
nearest_neg (negsuc n) d pd = sym (neg_ℤ-neg_ℤ (pos (nearest_magnitude (suc n) d)))

-- a nearest number lies between its dividend and zero, and so fits where the dividend does
pub nearest_between : (n : ℤ) (d : ℕ) → 0 < d → (nat_abs (nearest_to n d) ≤ nat_abs n)
nearest_between (pos n) d pd =
    omega (arith, ints, nearest_high (pos n) d (pos n) pd (omega (arith, ints, le-mul_of_pos_right n pd)), nearest_low (pos n) d (pos 0) pd (omega (arith, ints)))
nearest_between (negsuc n) d pd =
    omega (arith, ints, nearest_low (negsuc n) d (negsuc n) pd (omega (arith, ints, le-mul_of_pos_right (suc n) pd)), nearest_high (negsuc n) d (pos 0) pd (omega (arith, ints)))

-- there is one nearest number
apart : (n r s : ℤ) (d : ℕ) → 0 < d → Nearest n d r → Nearest n d s → r <ℤ s → ⊥
apart n r s d pd p q h =
    let gap = scaled_lt r s d h in
    let here = p.close in
    let there = q.close in
    half_one n r s d pd h (omega (arith, ints)) (omega (arith, ints)) (p.half (omega (arith, ints))) (q.half (omega (arith, ints)))

pub nearest_only : (n : ℤ) (d : ℕ) (r : ℤ) → 0 < d → Nearest n d r → r ≡ nearest_to n d
nearest_only n d r pd p =
    by_lt_z r (nearest_to n d) (λ k. absurd (apart n r (nearest_to n d) d pd p (nearest_is n d pd) k))
    (λ k. by_lt_z (nearest_to n d) r (λ m. absurd (apart n (nearest_to n d) r d pd (nearest_is n d pd) p m)) (λ m. omega (arith, ints)))

-- no further from zero than q, if the dividend is no further than q divisors
pub nearest_within : (n : ℤ) (d q : ℕ) → 0 < d → nat_abs n ≤ q * d → nat_abs (nearest_to n d) ≤ q
nearest_within n d q pd h =
    omega (arith, ints, nearest_low n d (neg_ℤ (pos q)) pd (omega (arith, ints, neg_scaled q d)), nearest_high n d (pos q) pd (omega (arith, ints)))

pub nearest_lawful : (n : ℤ) (d : ℕ) → 0 < d → Lawful n d (nearest_to n d)
nearest_lawful n d pd = record {
  monotone = λ m h. nearest_mono n m d pd h;
  odd = nearest_neg n d pd;
  exact = λ q e. rw e (nearest_exact q d pd);
  low = λ q h. nearest_low n d q pd h;
  high = λ q h. nearest_high n d q pd h;
}
