use Rattle.std.proofs.Common.{◌≡◌, pos, ◌≤ℤ◌, ◌<ℤ◌, arith}
use borrow.Author.Differences.{ints}
use Rattle.numbers.proofs.Integers.{signed_neg, signed_pos, signed_zero}
use Rattle.numbers.proofs.with_sign.Goals as goal
use Rattle.numbers.proofs.with_sign.Goals.{else-z-lt0-via-then-z-lt0+else-m-gt0, else-z-lt0-via-else-z-lt0}

pub returns-then-m-gt0 : goal.returns-then-m-gt0
returns-then-m-gt0 c =
    let neg : c.args.z <ℤ pos 0 = omega (arith, ints) in
    omega (arith, ints, signed_neg c.args.z c.args.m neg)

pub returns-else-z-lt0 : goal.returns-else-z-lt0
returns-else-z-lt0 c = elim c.else-z-lt0.branch [
  | else-z-lt0-via-then-z-lt0+else-m-gt0 w ↦
      (let e : c.args.m ≡ 0 = omega arith in rw e (omega (arith, ints, signed_zero c.args.z)))
  | else-z-lt0-via-else-z-lt0 w ↦
      (let s : pos 0 ≤ℤ c.args.z = omega (arith, ints) in
      omega (arith, ints, signed_pos c.args.z c.args.m s))
]
