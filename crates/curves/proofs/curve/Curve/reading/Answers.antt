use Rattle.std.proofs.Common.{◌≡◌, arith, w32, to_z, of_z}
use borrow.Author.Differences.{ints}
use Rattle.curves.specs.Curves.{points_of}
use Rattle.curves.proofs.Readings.{in_words}
use Rattle.curves.proofs.curve.Curve.reading.Goals as goal

pub returns : goal.returns
returns c =
    let x : to_z w32 (of_z w32 c.args.power) ≡ c.args.power = omega (arith, ints) in
    let r : to_z w32 (of_z w32 c.read.result) ≡ c.read.result = omega (arith, ints) in
    let words = in_words (points_of c.args.self.now) c.args.power (rw c.points.ensures.value at c.points.ensures.shape) c.read.result (rw (x, c.points.ensures.value) at c.read.ensures) in
    rw r (record { value = rw (x, c.points.ensures.value) at c.read.ensures; means = words.0; only = words.1 })
