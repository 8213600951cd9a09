use Rattle.std.proofs.Common.{refl, arith}
use Rattle.charges.proofs.Places.{known_free, none_free}
use Rattle.charges.proofs.table.Table.new.Goals as goal

pub invariant_of-result : goal.invariant_of-result
invariant_of-result c = record { many = refl; numbered = refl; once = λ r. omega arith; known = known_free 32; bound = omega arith; rest = none_free 32 }
