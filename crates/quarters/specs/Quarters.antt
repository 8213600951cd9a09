-- The slices of a quarter hour, and its refusal by number and place.
use Rattle.std.specs.Prelude.{ℕ, List}
use Rattle.bounded.specs.Items.{items_of}
use Rattle.quarters.specs.declared.quarter.QuarterHour.{QuarterHour}
use Rattle.quarters.specs.declared.quarter.make.QuarterRefusal.{QuarterRefusal}
use Rattle.quarters.specs.declared.quarter.make.QuarterRefusal.TheVariants.{NotAQuarter}

-- the durations of the slices
abbrev pub slices_of : QuarterHour → List ℕ
slices_of q = items_of q.slices

-- the number of a refusal
abbrev pub number_of : QuarterRefusal → ℕ
number_of NotAQuarter = 25

-- its place
abbrev pub place_of : QuarterRefusal → ℕ
place_of NotAQuarter = 0
