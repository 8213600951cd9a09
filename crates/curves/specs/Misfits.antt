-- Points that a test lets stand behind the one before them, and the first that it does not.
use Rattle.std.specs.Prelude.{ℕ, zero, suc, ◌-◌, ◌≤◌, Bool, true, false, List, length, Option, None, Some}
use Rattle.numbers.specs.Checks.{Each}
use Rattle.curves.specs.declared.points.Point.{Point}
use Rattle.curves.specs.Shape.{at}

-- the point before the one after the first k, if there is one
abbrev pub before : List Point → ℕ → Option Point
before ps zero = None
before ps (suc k) = Some (at ps k)

-- what the test says of the point after the first k, behind the one before it
abbrev pub Tells : (Option Point → Point → Bool → Type 0) → Bool → List Point → ℕ → Type 0
Tells Test answer ps k = Test (before ps k) (at ps k) answer

-- every point fits
abbrev pub AllFit : (Option Point → Point → Bool → Type 0) → List Point → Type 0
AllFit Test ps = Each (Tells Test true ps) (length ps)

-- the place, counted from 1, is that of the first point that does not fit
abbrev pub Misfit : (Option Point → Point → Bool → Type 0) → List Point → ℕ → Type 0
Misfit Test ps place = (1 ≤ place) × (place ≤ length ps) × Tells Test false ps (place - 1) × Each (Tells Test true ps) (place - 1)
