-- What a bounded list holds.
use Rattle.std.specs.Prelude.{ℕ, List, take}
use Rattle.bounded.specs.declared.list.BoundedList.{BoundedList}

-- its items, in order
abbrev pub items_of : {T : Type 0} {N : ℕ} → BoundedList T N → List T
items_of xs = take xs.count xs.slots
