-- The market's completion of a submitted curve, for resources without full-range curves.
use Rattle.std.specs.Prelude.{◌-◌, cond, List, [], ◌∷◌, ◌++◌, pos, negsuc, ◌-ℤ◌, int_lt}
use Rattle.std.specs.Int.{int_min}
use Rattle.curves.specs.declared.points.Point.{Point}
use Rattle.curves.specs.declared.points.SubmittedCurve.{SubmittedCurve}
use Rattle.curves.specs.Shape.{at, point}
use Rattle.curves.specs.Submission.{listed}

-- LSL at −25,000, if LSL is below the first power
abbrev pub low_end : SubmittedCurve → List Point
low_end row = let first = at (listed row) 0 in cond (int_lt row.lsl first.power) (point row.lsl (negsuc 24999) ∷ []) []

-- 1,000 kW below the first power, at the lesser of −24,999 and the first price
abbrev pub step_point : SubmittedCurve → Point
step_point row = let first = at (listed row) 0 in point (first.power -ℤ pos 1000) (int_min (negsuc 24998) first.price)

-- that point, if it is above LSL
abbrev pub step_up : SubmittedCurve → List Point
step_up row = cond (int_lt row.lsl (step_point row).power) (step_point row ∷ []) []

-- HSL at the last price, if HSL is above the last power
abbrev pub high_end : SubmittedCurve → List Point
high_end row = let last = at (listed row) (row.count - 1) in cond (int_lt last.power row.hsl) (point row.hsl last.price ∷ []) []

-- the points of the completed curve
unfoldable pub completed : SubmittedCurve → List Point
completed row = low_end row ++ (step_up row ++ (listed row ++ high_end row))
