-- The weights by magnitude, as the code adds them up, and the limits of a slice.
use Rattle.std.specs.Prelude.{ℕ, ◌*◌, ◌≤◌, unsigned_abs}
use Rattle.emergency.specs.declared.slices.Slice.{Slice}
use Rattle.emergency.specs.declared.slices.Side.{Side}
use Rattle.emergency.specs.Energy.{reach}

-- how much a slice's price counts, without a sign
abbrev pub weight_of : Side → Slice → ℕ
weight_of side x = unsigned_abs (reach side x) * x.seconds

-- 1 to 900 seconds, a base point within ±2,000,000, a price within ±1,000,000
abbrev pub Limited : Slice → Type 0
Limited x = (1 ≤ x.seconds) × (x.seconds ≤ 900) × (unsigned_abs x.base ≤ 2000000) × (unsigned_abs x.price ≤ 1000000)
