use Rattle.std.proofs.Common.{◌≡◌, take}
use Rattle.sites.specs.Sites.{written}
use Rattle.sites.proofs.split.write_rows.Given as goal

abbrev pub invariant-loop-place : goal.invariant-loop-place
invariant-loop-place l = l.rows ≡ written (take l.place l.units) (take l.place l.shares) l.initial.rows
