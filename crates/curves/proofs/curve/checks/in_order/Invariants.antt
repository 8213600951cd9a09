use Rattle.std.proofs.Common.{true}
use Rattle.numbers.specs.Checks.{Each}
use Rattle.curves.specs.Misfits.{Tells}
use Rattle.curves.proofs.curve.checks.in_order.Given as goal

abbrev pub invariant-loop-i : goal.invariant-loop-i
invariant-loop-i g l = Each (Tells (goal.F-post g l.fits) true l.points) l.i
