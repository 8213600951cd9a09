-- What the rule for halves gives: one of the two neighbours, and no other. The only lemmas that look into the rule.
use Rattle.std.proofs.Common.{◌≡◌, ℕ, ◌+◌, ◌*◌, ◌<◌, ◌≤◌, ℤ, pos, ◌-ℤ◌, ◌*ℤ◌, nat_abs, ◌<ℤ◌, add-mul, zero-mul, arith}
use borrow.Author.Differences.{ints}
use Rattle.std.proofs.lemmas.Int.{by_lt_z}
use Rattle.numbers.specs.Signs.{signed_by}
use Rattle.numbers.proofs.Integers.{abs_signed, abs_scaled, scaled, scaled_lt, scaled_le}
use Rattle.rounding.specs.Halves.{from_half, ByHalf}

pub half_low : (q : ℕ) → q ≤ from_half q
unfolding from_half
half_low q = omega arith

pub half_high : (q : ℕ) → from_half q ≤ q + 1
unfolding from_half
half_high q = omega arith

-- the definition is what the words name
pub half_named : (z : ℤ) (d q r : ℕ) → 0 < d → nat_abs z ≡ q * d + r → 2 * r ≡ d → ByHalf z d (signed_by z (from_half q))
unfolding from_half ByHalf
half_named z d q r pd e h = rw (abs_signed z (q + 1), e) (omega (arith, add-mul q 1 d))

-- the words name one of two
pub half_one : (n r s : ℤ) (d : ℕ) → 0 < d → r <ℤ s → 2 * nat_abs (r *ℤ pos d -ℤ n) ≡ d → 2 * nat_abs (s *ℤ pos d -ℤ n) ≡ d → ByHalf n d r → ByHalf n d s → ⊥
unfolding ByHalf
half_one n r s d pd h near far a b =
    let gap = scaled_lt r s d h in
    let x : nat_abs n < nat_abs (r *ℤ pos d) = rw (abs_scaled r d) a in
    let y : nat_abs n < nat_abs (s *ℤ pos d) = rw (abs_scaled s d) b in
    by_lt_z r (pos 0)
    (λ neg. omega (arith, ints, scaled_lt r (pos 0) d neg, scaled (pos 0) d, zero-mul d))
    (λ non. omega (arith, ints, scaled_le (pos 0) r d non, scaled (pos 0) d, zero-mul d))
