use Rattle.std.proofs.Common.{◌≡◌, ◌*◌, ◌≤◌, take, nat_abs}
use Rattle.sites.specs.Sites.{energy_of}
use Rattle.sites.proofs.site.Site.energy.Given as goal

abbrev pub invariant-loop-bus : goal.invariant-loop-bus
invariant-loop-bus l = (l.total ≡ energy_of (take l.bus-index l.bus-items)) × (nat_abs l.total ≤ 2147483648 * l.bus-index)
