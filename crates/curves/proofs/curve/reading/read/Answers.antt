use Rattle.std.proofs.Common.{◌≡◌, ◌-◌, length, sym, ◌∙◌, arith, w32, to_z, of_z}
use borrow.Author.Differences.{ints}
use Rattle.std.proofs.lemmas.Int.{to_z-of_z}
use Rattle.curves.proofs.Readings.{reads_above, reads_past}
use Rattle.curves.proofs.curve.reading.read.Goals as goal

pub returns-in-Some : goal.returns-in-Some
returns-in-Some c =
    let x : to_z w32 (of_z w32 c.args.power) ≡ c.args.power = omega (arith, ints) in
    let value = rw x at c.on_line.ensures in
    let r : to_z w32 (of_z w32 c.on_line.result) ≡ c.on_line.result = omega (arith, ints) in
    r ∙ value ∙ sym (reads_above c.args.points.now c.args.power c.requires c.in-Some.place (rw x at c.in-Some.ensures) c.in-Some.place-test.1)

pub returns-in-None : goal.returns-in-None
returns-in-None c =
    let x : to_z w32 (of_z w32 c.args.power) ≡ c.args.power = omega (arith, ints) in
    let last = c.requires.inside (length c.args.points.now - 1) (omega (arith, c.requires.some)) in
    grind (arith, to_z-of_z, reads_past c.args.points.now c.args.power c.requires (rw x at c.in-None.ensures))
