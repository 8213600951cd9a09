-- The nearest whole number to a quotient.
use Rattle.std.specs.Prelude.{◌≡◌, ℕ, suc, ◌+◌, ◌*◌, ◌/◌, ◌%◌, ◌≤◌, cond, ℤ, pos, negsuc, ◌-ℤ◌, ◌*ℤ◌, neg_ℤ, ◌≤ℤ◌, nat_lt, unsigned_abs}
use Rattle.numbers.specs.Signs.{signed_by}
use Rattle.rounding.specs.Halves.{from_half, ByHalf}

-- n / d for magnitudes: the quotient where less than a half is over, one more where more is
unfoldable pub nearest_magnitude : ℕ → ℕ → ℕ
nearest_magnitude n d = cond (nat_lt (2 * (n % d)) d) (n / d) (cond (nat_lt d (2 * (n % d))) (n / d + 1) (from_half (n / d)))

-- n / d: the magnitude to the nearest, and the sign put back
unfoldable pub nearest_to : ℤ → ℕ → ℤ
nearest_to n d = signed_by n (nearest_magnitude (unsigned_abs n) d)

-- n / d for a divisor of either sign
abbrev pub nearest_over : ℤ → ℤ → ℤ
nearest_over n (pos d) = nearest_to n d
nearest_over n (negsuc d) = nearest_to (neg_ℤ n) (suc d)

-- r is the nearest whole number to n / d: within half a unit of it, and where exactly half a unit is between them, the one that the rule for halves names
pub record Nearest (n : ℤ) (d : ℕ) (r : ℤ) : Type 0 where
  pub close : 2 * unsigned_abs (r *ℤ pos d -ℤ n) ≤ d
  pub half : 2 * unsigned_abs (r *ℤ pos d -ℤ n) ≡ d → ByHalf n d r

-- one number is the nearest
abbrev pub Pinned : ℤ → ℕ → ℤ → Type 0
Pinned n d r = (s : ℤ) → Nearest n d s → s ≡ r

-- what callers build on, wherever a half goes: r = nearest of n / d follows the order of dividends, keeps the sign's symmetry, is exact at multiples, and stays within whole limits of the quotient
pub record Lawful (n : ℤ) (d : ℕ) (r : ℤ) : Type 0 where
  pub monotone : (m : ℤ) → n ≤ℤ m → r ≤ℤ nearest_to m d
  pub odd : nearest_to (neg_ℤ n) d ≡ neg_ℤ r
  pub exact : (q : ℤ) → n ≡ q *ℤ pos d → r ≡ q
  pub low : (q : ℤ) → (q *ℤ pos d) ≤ℤ n → q ≤ℤ r
  pub high : (q : ℤ) → n ≤ℤ (q *ℤ pos d) → r ≤ℤ q
