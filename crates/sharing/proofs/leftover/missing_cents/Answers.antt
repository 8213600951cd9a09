use Rattle.std.proofs.Common.{ℕ, ◌+◌, sum, arith}
use Rattle.std.proofs.lemmas.List.Sums.{sum_by_more, sum_by-take-le}
use Rattle.sharing.specs.Leftover.{down}
use Rattle.sharing.specs.LeftoverLaws.{down_le}
use Rattle.sharing.proofs.leftover.missing_cents.Goals as goal

pub overflow_sub-left : goal.overflow_sub-left
overflow_sub-left c =
    let m : ℕ = c.args.magnitude in
    let ls = c.args.loads.now in
    rw (c.from.ensures, c.requires.sums) (omega (arith, sum_by_more (down m (sum ls)) ls c.loop-load.load-index 0 c.loop-load-test.true, sum_by-take-le (down m (sum ls)) ls (c.loop-load.load-index + 1), down_le m ls c.requires.loaded))
