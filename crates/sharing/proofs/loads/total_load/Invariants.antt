use Rattle.std.proofs.Common.{◌≡◌, ◌*◌, ◌≤◌, take, sum}
use Rattle.sharing.proofs.loads.total_load.Given as goal

abbrev pub invariant-loop-load : goal.invariant-loop-load
invariant-loop-load l = record { total : l.all ≡ sum (take l.load-index l.loads); small : l.all ≤ 4294967295 * l.load-index }
