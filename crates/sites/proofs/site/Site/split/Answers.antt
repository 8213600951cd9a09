use Rattle.std.proofs.lemmas.Int.{to_z-of_z}
use Rattle.std.proofs.Common.{w64, arith}
use Rattle.sites.proofs.Rows.{accepted}
use Rattle.sites.proofs.Splits.{asked, shares_fit}
use Rattle.sites.proofs.Values.{parts_inside}
use Rattle.sites.proofs.site.Site.split.Goals as goal

pub share_out-requires-clause-asked : goal.share_out-requires-clause-asked
share_out-requires-clause-asked g c =
    rw (to_z-of_z w64 c.args.amount c.ranges.amount, c.as_slice.ensures, c.readings-readings.ensures) (asked c.args.amount c.args.self.now.units.now c.requires.small (omega (arith, c.requires.counts)) (parts_inside c.args.self.now c.requires.inside).2 c.requires.loaded)

pub write_rows-requires-clause-small : goal.write_rows-requires-clause-small
write_rows-requires-clause-small g c =
    let fair = rw (to_z-of_z w64 c.args.amount c.ranges.amount, c.as_slice.ensures, c.readings-readings.ensures) at c.share_out.ensures.fair in
    (shares_fit c.args.amount c.args.self.now.units.now c.requires.small c.share_out.new.shares fair).1

pub returns-clause-accepted : goal.returns-clause-accepted
returns-clause-accepted g c =
    let us = c.args.self.now.units.now in
    let fair = rw (to_z-of_z w64 c.args.amount c.ranges.amount, c.as_slice.ensures, c.readings-readings.ensures) at c.share_out.ensures.fair in
    let fit = shares_fit c.args.amount us c.requires.small c.share_out.new.shares fair in
    rw c.write_rows.ensures (accepted us c.share_out.new.shares c.args.rows.now fit.0 (parts_inside c.args.self.now c.requires.inside).2 fit.1)
