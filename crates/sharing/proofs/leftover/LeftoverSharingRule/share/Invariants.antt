use Rattle.std.proofs.Common.{◌≡◌, ℕ, ◌-◌, ◌<◌, get_or, take, pos, sum, count_by}
use Rattle.numbers.specs.Signs.{signed_by}
use Rattle.sharing.specs.Leftover.{broken, missing, part}
use Rattle.sharing.proofs.leftover.LeftoverSharingRule.share.Given as goal

abbrev pub invariant-loop-place : goal.invariant-loop-place
invariant-loop-place l = (l.left ≡ missing l.magnitude l.loads - count_by (broken l.magnitude (sum l.loads)) (take l.place l.loads))
    × ((k : ℕ) → k < l.place → get_or l.shares k (pos 0) ≡ signed_by l.total (part l.magnitude l.loads k))
