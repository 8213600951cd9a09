use Rattle.std.proofs.Common.{◌≡◌, ◌+◌, ◌-◌, ◌*◌, ◌≤◌, map, sum}
use Rattle.std.specs.List.{range_with_len}
use Rattle.charges.proofs.energy.energy.Given as goal

abbrev pub invariant-loop-n : goal.invariant-loop-n
invariant-loop-n g l = record {
  total : l.kwh ≡ sum (map (g.S.BasisSource.basis_of l.source) (range_with_len 1 (l.n - 1)));
  small : l.kwh ≤ 1000000 * (l.n - 1);
  within : l.n ≤ l.count + 1;
}
