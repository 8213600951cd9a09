use Rattle.std.proofs.Common.{◌≡◌, ℕ, ◌+◌, ◌-◌, ◌<◌, get_or, take, pos, sum}
use Rattle.numbers.specs.Signs.{signed_by}
use Rattle.sharing.specs.Running.{up_to}
use Rattle.sharing.proofs.running.RunningSharingRule.share.Given as goal

abbrev pub invariant-loop-place : goal.invariant-loop-place
invariant-loop-place l = (l.before ≡ sum (take l.place l.loads))
    × (l.given ≡ up_to l.magnitude l.loads l.place)
    × ((k : ℕ) → k < l.place → get_or l.shares k (pos 0) ≡ signed_by l.total (up_to l.magnitude l.loads (k + 1) - up_to l.magnitude l.loads k))
