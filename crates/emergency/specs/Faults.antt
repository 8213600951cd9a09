-- A row's fields by number and name, and its fault by number and field.
use Rattle.std.specs.Prelude.{ℕ, List, codes}
use Rattle.emergency.specs.declared.row.Field.{Field}
use Rattle.emergency.specs.declared.row.Field.TheVariants.{Resource, SettlementPointPrice, Generation, Charging, BasePoint, Hour, Cap}
use Rattle.emergency.specs.declared.row.RowFault.{RowFault}
use Rattle.emergency.specs.declared.row.RowFault.TheVariants.{Outside, NoCurve}

-- a field's number
abbrev pub number_of : Field → ℕ
number_of Resource = 1
number_of SettlementPointPrice = 2
number_of Generation = 3
number_of Charging = 4
number_of BasePoint = 5
number_of Hour = 6
number_of Cap = 7

-- its name, as it is told
abbrev pub name_of : Field → List ℕ
name_of Resource = codes "the resource"
name_of SettlementPointPrice = codes "the settlement point price"
name_of Generation = codes "the generation"
name_of Charging = codes "the charging"
name_of BasePoint = codes "a base point"
name_of Hour = codes "the hour"
name_of Cap = codes "the cap"

-- a fault's number
abbrev pub cause_of : RowFault → ℕ
cause_of (Outside field) = 41
cause_of NoCurve = 40

-- the field's number
abbrev pub field_of : RowFault → ℕ
field_of (Outside field) = field
field_of NoCurve = 0
