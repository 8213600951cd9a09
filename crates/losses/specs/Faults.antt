-- A row's fields by number and name.
use Rattle.std.specs.Prelude.{ℕ, List, codes}
use Rattle.losses.specs.declared.row.Field.{Field}
use Rattle.losses.specs.declared.row.Field.TheVariants.{Resource, SettlementPointPrice, Generation, HeatRate, FuelPrice, ChargingCost, OwnCost, Category, FuelBurned, Cap}

-- a field's number
abbrev pub number_of : Field → ℕ
number_of Resource = 1
number_of SettlementPointPrice = 2
number_of Generation = 3
number_of HeatRate = 4
number_of FuelPrice = 5
number_of ChargingCost = 6
number_of OwnCost = 7
number_of Category = 8
number_of FuelBurned = 9
number_of Cap = 10

-- its name, as it is told
abbrev pub name_of : Field → List ℕ
name_of Resource = codes "the resource"
name_of SettlementPointPrice = codes "the settlement point price"
name_of Generation = codes "the generation"
name_of HeatRate = codes "the heat rate"
name_of FuelPrice = codes "the fuel price"
name_of ChargingCost = codes "the charging cost"
name_of OwnCost = codes "the own O&M"
name_of Category = codes "the category"
name_of FuelBurned = codes "the fuel burned"
name_of Cap = codes "the cap"
