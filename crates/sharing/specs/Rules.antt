-- What a sharing rule is asked, and the laws that it keeps to.
use Rattle.std.specs.Prelude.{◌≡◌, ℕ, ◌<◌, ◌≤◌, List, length, ℤ, pos, ◌-ℤ◌, ◌*ℤ◌, sum, slice_index, slice_index_or, unsigned_abs}
use Rattle.std.specs.List.{AllByRecursion}
use Rattle.numbers.specs.Sums.{signed_total}

-- a total within ±5,000,000,000 cents, and 1 to 64 loads, each 0 to 20,000,000, with a sum above 0
pub record Asked (total : ℤ) (loads : List ℕ) : Type 0 where
  pub range : unsigned_abs total ≤ 5000000000
  pub few : length loads ≤ 64
  pub each : AllByRecursion (λ load. load ≤ 20000000) loads
  pub loaded : 0 < sum loads

-- the laws: as many shares as loads; they add up to the total; share × L differs from total × load by less than L, the sum of the loads
pub record Fair (total : ℤ) (loads : List ℕ) (shares : List ℤ) : Type 0 where
  pub count : length shares ≡ length loads
  pub whole : signed_total shares ≡ total
  pub near : (k : ℕ) → k < length loads → unsigned_abs (slice_index_or shares k (pos 0) *ℤ pos (sum loads) -ℤ total *ℤ pos (slice_index loads k)) < sum loads
