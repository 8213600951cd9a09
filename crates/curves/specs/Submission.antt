-- What a submitted row must keep to, and how it is refused.
use Rattle.std.specs.Prelude.{ℕ, ◌-◌, ◌<◌, ◌≤◌, List, [], ◌∷◌, take, ℤ, pos, negsuc, ◌≤ℤ◌, ◌<ℤ◌}
use Rattle.numbers.specs.Checks.{Check, whole, each}
use Rattle.curves.specs.declared.points.Point.{Point}
use Rattle.curves.specs.declared.points.SubmittedCurve.{SubmittedCurve}
use Rattle.curves.specs.declared.points.CurveRefusal.{CurveRefusal}
use Rattle.curves.specs.declared.points.CurveRefusal.TheVariants.{Count, Power, Price, Limits}
use Rattle.curves.specs.Shape.{at}

-- the points that a row submits
abbrev pub listed : SubmittedCurve → List Point
listed row = take row.count row.points

-- a power in kW within its range
abbrev pub PowerIn : ℤ → Type 0
PowerIn x = (negsuc 1999999 ≤ℤ x) × (x ≤ℤ pos 2000000)

-- a price in cents per MWh within its range
abbrev pub PriceIn : ℤ → Type 0
PriceIn y = (negsuc 24999 ≤ℤ y) × (y ≤ℤ pos 1000000)

-- the k-th power is inside and above the one before
abbrev pub GoodPower : List Point → ℕ → Type 0
GoodPower ps k = PowerIn (at ps k).power × (0 < k → (at ps (k - 1)).power <ℤ (at ps k).power)

-- the k-th price is inside and not below the one before
abbrev pub GoodPrice : List Point → ℕ → Type 0
GoodPrice ps k = PriceIn (at ps k).price × (0 < k → (at ps (k - 1)).price ≤ℤ (at ps k).price)

-- 1 to 10 points
abbrev pub GoodCount : SubmittedCurve → Type 0
GoodCount row = (1 ≤ row.count) × (row.count ≤ 10)

-- LSL and HSL in the power range, and LSL not above HSL
abbrev pub GoodLimits : SubmittedCurve → Type 0
GoodLimits row = PowerIn row.lsl × PowerIn row.hsl × (row.lsl ≤ℤ row.hsl)

-- 21: how many points there are
abbrev pub count_check : SubmittedCurve → Check
count_check row = whole 21 (GoodCount row)

-- 22: each power
abbrev pub power_check : SubmittedCurve → Check
power_check row = each 22 row.count (GoodPower (listed row))

-- 23: each price
abbrev pub price_check : SubmittedCurve → Check
price_check row = each 23 row.count (GoodPrice (listed row))

-- 24: the limits
abbrev pub limit_check : SubmittedCurve → Check
limit_check row = whole 24 (GoodLimits row)

-- the checks of a row, in order
abbrev pub checks : SubmittedCurve → List Check
checks row = count_check row ∷ power_check row ∷ price_check row ∷ limit_check row ∷ []

-- the number of a refusal
abbrev pub number_of : CurveRefusal → ℕ
number_of Count = 21
number_of (Power place) = 22
number_of (Price place) = 23
number_of Limits = 24

-- the place of a refusal
abbrev pub place_of : CurveRefusal → ℕ
place_of Count = 0
place_of (Power place) = place
place_of (Price place) = place
place_of Limits = 0
