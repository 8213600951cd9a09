-- When durations make a quarter hour: 1 to 15 slices of 1 to 900 seconds that add up to 900.
use Rattle.std.specs.Prelude.{◌≡◌, ℕ, ◌<◌, ◌≤◌, List, [], ◌∷◌, length, sum, slice_index}
use Rattle.numbers.specs.Checks.{Check, whole}

-- each slice lasts 1 to 900 seconds
abbrev pub Lasting : List ℕ → Type 0
Lasting seconds = (k : ℕ) → k < length seconds → (1 ≤ slice_index seconds k) × (slice_index seconds k ≤ 900)

-- the durations make a quarter hour
pub record IsQuarter (seconds : List ℕ) : Type 0 where
  pub some : 1 ≤ length seconds
  pub few : length seconds ≤ 15
  pub each : Lasting seconds
  pub whole : sum seconds ≡ 900

-- the one check
abbrev pub checks : List ℕ → List Check
checks seconds = whole 25 (IsQuarter seconds) ∷ []
