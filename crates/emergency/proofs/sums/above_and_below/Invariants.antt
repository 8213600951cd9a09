use Rattle.std.proofs.Common.{◌≡◌, length}
use Rattle.curves.specs.Curves.{points_of}
use Rattle.quarters.specs.Quarters.{slices_of}
use Rattle.emergency.specs.declared.slices.Side.TheVariants.{Above, Below}
use Rattle.emergency.specs.Sums.{sums_of}
use Rattle.emergency.proofs.Limits.{firsts}
use Rattle.emergency.proofs.sums.above_and_below.Given as goal

abbrev pub invariant-loop-seconds : goal.invariant-loop-seconds
invariant-loop-seconds l = record {
  above : l.above ≡ sums_of Above (firsts (points_of l.curve) l.row.cap (slices_of l.fn.quarter) l.row.bases (length l.yielded));
  below : l.below ≡ sums_of Below (firsts (points_of l.curve) l.row.cap (slices_of l.fn.quarter) l.row.bases (length l.yielded));
}
