-- The numbers that a slot is told by.
use Rattle.std.specs.Prelude.{◌≡◌, ℕ, Ok, Err, Result}
use Rattle.law.specs.Settlements.{Among, SlotOf}
use Rattle.assess.specs.declared.refusals.Refusal.{Refusal}
use Rattle.assess.specs.declared.refusals.Refusal.TheVariants.{NoSlot}
use Rattle.assess.specs.declared.slots.ChargeType.{ChargeType}
use Rattle.assess.specs.declared.slots.ChargeType.TheVariants.{Emergency, OperatingLoss, Site}
use Rattle.assess.specs.declared.slots.SlotId.{SlotId}

-- a charge type's number
abbrev pub type_number : ChargeType → ℕ
type_number Emergency = 1
type_number OperatingLoss = 2
type_number Site = 3

-- what a number is turned into: the type that has it, or that there is no such slot
abbrev pub IsTypeOf : ℕ → Result ChargeType Refusal → Type 0
IsTypeOf number (Ok t) = type_number t ≡ number
IsTypeOf number (Err e) = (e ≡ NoSlot) × (Among number 3 → ⊥)

-- the slot of a charge type's number and an interval
abbrev pub Names : SlotId → ℕ → ℕ → Type 0
Names slot t i = (type_number slot.charge_type ≡ t) × (slot.interval ≡ i)

-- the slot is one of a book of so many intervals
abbrev pub Within : ℕ → SlotId → Type 0
Within intervals slot = SlotOf intervals (type_number slot.charge_type) slot.interval
