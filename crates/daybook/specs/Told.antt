-- How a refusal is told, and a fault of the reading.
use Rattle.std.specs.Prelude.{ℕ, Option, None, Some}
use Rattle.assess.specs.declared.refusals.Refusal.{Refusal}
use Rattle.assess.specs.declared.refusals.Refusal.TheVariants.{Faulty}
use Rattle.assess.specs.Refusals.{number_of, place_of}
use Rattle.charges.specs.declared.fault.Fault.{Fault}
use Rattle.daybook.specs.declared.notdone.NotDone.{NotDone}
use Rattle.daybook.specs.declared.notdone.NotDone.TheVariants.{Malformed, Memory}
use Rattle.daybook.specs.declared.notdone.Refused.{Refused}
use Rattle.text.specs.declared.fields.Fault.{Fault as FieldFault}
use Rattle.text.specs.declared.fields.Fault.TheVariants.{Malformed as FieldMalformed, Memory as NoMemory}

-- the fault that a refusal carries
abbrev pub fault_in : Refusal → Option Fault
fault_in (Faulty charge_type interval line fault) = Some fault
fault_in _ = None

-- a refusal that is told by its number and place alone
abbrev pub told : ℕ → ℕ → Refused
told number place = record { number = number; place = place; fault = None }

-- a fault of the reading
abbrev pub read_fault : FieldFault → NotDone
read_fault (FieldMalformed field) = Malformed field
read_fault NoMemory = Memory

-- its number, its place, and the fault whole
abbrev pub told_of : Refusal → Refused
told_of refusal = record { number = number_of refusal; place = place_of refusal; fault = fault_in refusal }
