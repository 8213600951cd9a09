use Rattle.std.proofs.Common.{◌≤◌, ℤ, ◌*ℤ◌, nat_abs, mul-le-mul, arith, w64, SFits}
use borrow.Author.Differences.{ints}
use Rattle.std.proofs.lemmas.Int.{to_z-of_z}
use Rattle.numbers.proofs.Integers.{abs_times}
use Rattle.numbers.proofs.product.Goals as goal

fits : (a b : ℤ) → nat_abs a ≤ 2000000000 → nat_abs b ≤ 2000000000 → SFits w64 (a *ℤ b)
fits a b h k = omega (arith, ints, abs_times a b, mul-le-mul h k)

pub overflow_mul-result : goal.overflow_mul-result
overflow_mul-result c =
    rw (to_z-of_z w64 c.args.a c.ranges.a, to_z-of_z w64 c.args.b c.ranges.b) (fits c.args.a c.args.b c.requires.left c.requires.right)

pub returns : goal.returns
returns c =
    rw (to_z-of_z w64 c.args.a c.ranges.a, to_z-of_z w64 c.args.b c.ranges.b) (to_z-of_z w64 _ (fits c.args.a c.args.b c.requires.left c.requires.right))
