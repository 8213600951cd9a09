use Rattle.std.proofs.Common.{length}
use Rattle.directory.proofs.Found.{Narrowed}
use Rattle.directory.proofs.lookup.Directory.find.Given as goal

-- every place of the key is among the rest
abbrev pub invariant-loop-middle : goal.invariant-loop-middle
invariant-loop-middle g l = Narrowed g.R.Keyed.kind l.self.records.now l.self.rises (g.R.Keyed.sense l.key) l.rest l.before

abbrev pub decreases-loop-middle : goal.decreases-loop-middle
decreases-loop-middle g l = length l.rest
