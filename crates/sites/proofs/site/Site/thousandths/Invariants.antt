use Rattle.std.proofs.Common.{◌≡◌, ◌*◌, ◌≤◌, take, nat_abs}
use Rattle.quarters.specs.Quarters.{slices_of}
use Rattle.sites.specs.Sites.{thousandths}
use Rattle.sites.proofs.site.Site.thousandths.Given as goal

abbrev pub invariant-loop-bus : goal.invariant-loop-bus
invariant-loop-bus l = (l.total ≡ thousandths (slices_of l.fn.self.quarter.now) l.fn.self.adders.now (take l.bus-index l.bus-items)) × (nat_abs l.total ≤ 30000000000 * l.bus-index)
