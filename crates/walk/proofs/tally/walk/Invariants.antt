use Rattle.std.proofs.Common.{◌≤◌, ◌+◌, ◌-◌, unwrap_or}
use Rattle.walk.proofs.Steps.{Walk}
use Rattle.walk.proofs.tally.walk.Given as goal

abbrev pub invariant-loop-n : goal.invariant-loop-n
invariant-loop-n g l = record { within : l.n ≤ l.count + 1; walk : Walk l.parties (g.S.LineSource.lines l.source) (l.n - 1) (unwrap_or l.before 0) l.total l.paid }
