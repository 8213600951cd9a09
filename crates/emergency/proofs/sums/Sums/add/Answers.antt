use Rattle.std.proofs.Common.{◌≡◌, ◌*◌, ◌≤◌, ℤ, ◌+ℤ◌, nat_abs, arith, w64, to_z, of_z}
use borrow.Author.Differences.{ints}
use Rattle.emergency.specs.Sums.{priced, worked}
use Rattle.emergency.proofs.Terms.{limit, price_small, work_small}
use Rattle.emergency.proofs.sums.Sums.add.Goals as goal

-- a signed sum with one term more, clear of its bits
clear : (a z t : ℤ) → z ≡ t → nat_abs a ≤ limit * 14 → nat_abs t ≤ limit → to_z w64 (of_z w64 (to_z w64 (of_z w64 a) +ℤ to_z w64 (of_z w64 z))) ≡ a +ℤ t
clear a z t is room small = omega (arith, ints)

pub returns : goal.returns
returns c =
    let prices = clear c.args.self.now.prices c.weighed_price.result (priced c.args.side c.args.slice.now) c.weighed_price.ensures c.requires.room.prices (price_small c.args.side c.args.slice.now c.requires.limited) in
    let work = clear c.args.self.now.work c.work.result (worked c.args.side c.args.slice.now) c.work.ensures c.requires.room.work (work_small c.args.side c.args.slice.now c.requires.limited) in
    cc (prices, work)
