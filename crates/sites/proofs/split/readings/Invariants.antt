use Rattle.std.proofs.Common.{◌≡◌, take}
use Rattle.bounded.specs.Items.{items_of}
use Rattle.sites.specs.Sites.{readings}
use Rattle.sites.proofs.split.readings.Given as goal

abbrev pub invariant-loop-unit : goal.invariant-loop-unit
invariant-loop-unit l = items_of l.readings ≡ readings (take l.unit-index l.units)
