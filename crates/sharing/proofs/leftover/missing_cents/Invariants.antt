use Rattle.std.proofs.Common.{◌≡◌, ◌-◌, take, sum_by, sum}
use Rattle.sharing.specs.Leftover.{down}
use Rattle.sharing.proofs.leftover.missing_cents.Given as goal

abbrev pub invariant-loop-load : goal.invariant-loop-load
invariant-loop-load l = l.left ≡ l.magnitude - sum_by (down l.magnitude (sum l.loads)) (take l.load-index l.loads)
