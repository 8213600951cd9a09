use Rattle.std.proofs.Common.{◌≡◌, get_or, set, pos, ap, ◌∙◌, arith, w64, to_z, of_z}
use borrow.Author.Differences.{ints}
use Rattle.sites.specs.Sites.{row_of}
use Rattle.sites.proofs.Rows.{written_more}
use Rattle.sites.proofs.split.write_rows.Goals as goal

pub loop-place-preserved : goal.loop-place-preserved
loop-place-preserved c =
    let i = c.loop-place.place in
    let share = get_or c.args.shares.now i (pos 0) in
    let small = c.requires.small i c.loop-place-test.true in
    let clear : to_z w64 (of_z w64 share) ≡ share = omega (arith, ints) in
    let unit = get_or c.args.units.now i (record { resource = 0; party = 0; reading = 0 }) in
    rw clear (ap (λ rows. set rows i (row_of unit share)) c.loop-place.invariant
    ∙ written_more c.args.units.now c.args.shares.now c.args.rows.now i _ (pos 0) c.loop-place-test.true (omega arith) (omega arith))
