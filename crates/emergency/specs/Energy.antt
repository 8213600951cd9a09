-- The emergency energy payment of a resource in a quarter hour, from its priced slices. Prices are cents per MWh, powers kW, energies kWh, durations seconds, amounts cents.
use Rattle.std.specs.Prelude.{ℕ, Bool, cond, List, ℤ, pos, neg_ℤ, ◌+ℤ◌, ◌-ℤ◌, ◌*ℤ◌, int_lt, unsigned_abs}
use Rattle.std.specs.Int.{int_min, int_max}
use Rattle.std.specs.List.{list_any}
use Rattle.numbers.specs.Sums.{signed_sum}
use Rattle.rounding.specs.Nearest.{nearest_to, nearest_over}
use Rattle.emergency.specs.declared.slices.Slice.{Slice}
use Rattle.emergency.specs.declared.slices.Side.{Side}
use Rattle.emergency.specs.declared.slices.Side.TheVariants.{Above, Below}

-- the base point is above 0, or below 0
abbrev pub lies : Side → Slice → Bool
lies Above x = int_lt (pos 0) x.base
lies Below x = int_lt x.base (pos 0)

-- some slice's base point lies on that side
abbrev pub some : Side → List Slice → Bool
some side xs = list_any (lies side) xs

-- max(least, BP), or min(−least, BP)
abbrev pub at_least : ℕ → Side → Slice → ℤ
at_least least Above x = int_max (pos least) x.base
at_least least Below x = int_min (neg_ℤ (pos least)) x.base

-- max(1, BP), or min(−1, BP)
abbrev pub reach : Side → Slice → ℤ
reach side x = at_least 1 side x

-- that times the seconds: how much a slice's price counts
abbrev pub weight : Side → Slice → ℤ
weight side x = reach side x *ℤ pos x.seconds

-- max(0, BP), or min(0, BP)
abbrev pub power : Side → Slice → ℤ
power side x = at_least 0 side x

-- W and V: the nearest to Σ(price × weight) / Σ weight; 0 if no base point lies on that side
unfoldable pub mean_price : Side → List Slice → ℤ
mean_price side xs = cond (some side xs) (nearest_over (signed_sum (λ x. x.price *ℤ weight side x) xs) (signed_sum (weight side) xs)) (pos 0)

-- the nearest of Σ(power × s) / 3600
unfoldable pub scheduled : Side → List Slice → ℤ
scheduled side xs = nearest_to (signed_sum (λ x. power side x *ℤ pos x.seconds) xs) 3600

-- E: what was scheduled above zero, but no more than was generated
unfoldable pub discharged : ℕ → List Slice → ℤ
discharged generation xs = cond (some Above xs) (int_max (pos 0) (int_min (pos generation) (scheduled Above xs))) (pos 0)

-- D: what was scheduled below zero, but no more than was charged
unfoldable pub charged : ℤ → List Slice → ℤ
charged charging xs = cond (some Below xs) (int_min (pos 0) (int_max charging (scheduled Below xs))) (pos 0)

-- SPP × (E + D) − W × E − V × D
abbrev pub due : ℤ → ℤ → ℤ → ℤ → ℤ → ℤ
due spp w e v d = ((spp *ℤ (e +ℤ d)) -ℤ (w *ℤ e)) -ℤ (v *ℤ d)

-- the nearest to min(0, due) / 1000
unfoldable pub amount : ℤ → ℕ → ℤ → List Slice → ℤ
amount spp generation charging xs =
    nearest_to (int_min (pos 0) (due spp (mean_price Above xs) (discharged generation xs) (mean_price Below xs) (charged charging xs))) 1000

-- E − D, which is not negative
unfoldable pub basis : ℕ → ℤ → List Slice → ℕ
basis generation charging xs = unsigned_abs (discharged generation xs -ℤ charged charging xs)
