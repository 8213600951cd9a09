-- The sums over the slices on one side of zero, as the code adds them up, and what they come to.
use Rattle.std.specs.Prelude.{◌+◌, ◌*◌, ◌≤◌, cond, ◌||◌, List, ℤ, pos, ◌+ℤ◌, ◌*ℤ◌, sum_by, unsigned_abs}
use Rattle.std.specs.Int.{int_min, int_max}
use Rattle.numbers.specs.Sums.{signed_sum}
use Rattle.rounding.specs.Nearest.{nearest_to}
use Rattle.emergency.specs.declared.slices.Slice.{Slice}
use Rattle.emergency.specs.declared.slices.Side.{Side}
use Rattle.emergency.specs.declared.sums.Sums.{Sums}
use Rattle.emergency.specs.Energy.{lies, some, power}
use Rattle.emergency.specs.Weights.{weight_of}

-- a slice's price by its weight, and its power as long as it lasts
abbrev pub priced : Side → Slice → ℤ
priced side x = x.price *ℤ pos (weight_of side x)

abbrev pub worked : Side → Slice → ℤ
worked side x = power side x *ℤ pos x.seconds

-- whether some base point lies there, and the sums of the weights, the prices and the powers
abbrev pub sums_of : Side → List Slice → Sums
sums_of side xs = record { any = some side xs; weights = sum_by (weight_of side) xs; prices = signed_sum (priced side) xs; work = signed_sum (worked side) xs }

-- the sums with one slice more
abbrev pub one_more : Side → Slice → Sums → Sums
one_more side x sums = record {
  any = sums.any || lies side x;
  weights = sums.weights + weight_of side x;
  prices = sums.prices +ℤ priced side x;
  work = sums.work +ℤ worked side x;
}

-- the sums are no larger than those over 14 slices
pub record Roomy (sums : Sums) : Type 0 where
  pub weights : sums.weights ≤ 1800000000 * 14
  pub prices : unsigned_abs sums.prices ≤ 1800000000000000 * 14
  pub work : unsigned_abs sums.work ≤ 1800000000000000 * 14

-- the mean price of the sums, and their energy between two limits
abbrev pub mean_of : Sums → ℤ
mean_of sums = cond sums.any (nearest_to sums.prices sums.weights) (pos 0)

abbrev pub energy_of : ℤ → ℤ → Sums → ℤ
energy_of least most sums = cond sums.any (int_max least (int_min (nearest_to sums.work 3600) most)) (pos 0)
