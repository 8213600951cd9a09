-- The limits of a row's fields, in the order in which they are checked. Prices and costs are cents per MWh, but the fuel price cents per MMBtu; energies are kWh, heat rates thousandths of MMBtu per MWh, fuel burned thousandths of MMBtu.
use Rattle.std.specs.Prelude.{◌≡◌, cond, List, [], ◌∷◌, ◌++◌, Option, Some, None, Ok, Err, Result, MatchResult, ℤ, pos, negsuc, ◌≤ℤ◌}
use Rattle.numbers.specs.Ranges.{outside}
use Rattle.losses.specs.declared.row.Field.{Field}
use Rattle.losses.specs.declared.row.Field.TheVariants.{Resource, SettlementPointPrice, Generation, HeatRate, FuelPrice, ChargingCost, OwnCost, Category, FuelBurned, Cap}
use Rattle.losses.specs.declared.row.Kind.{Kind}
use Rattle.losses.specs.declared.row.Kind.TheVariants.{Verified, Proxy, Storage}
use Rattle.losses.specs.declared.row.LossRow.{LossRow}

-- a field with its least, its greatest and its actual value
pub record Limited : Type 0 where
  pub field : Field
  pub least : ℤ
  pub most : ℤ
  pub value : ℤ

-- such a field
abbrev pub limited : Field → ℤ → ℤ → ℤ → Limited
limited field least most value = record { field = field; least = least; most = most; value = value }

-- the fields that only a row's kind uses
abbrev pub fields_of_kind : Kind → List Limited
fields_of_kind (Verified heat_rate fuel_price own_cost burned) =
    limited HeatRate (pos 1000) (pos 50000) (pos heat_rate)
    ∷ limited FuelPrice (pos 0) (pos 100000) fuel_price
    ∷ limited OwnCost (pos 0) (pos 10000) own_cost
    ∷ limited FuelBurned (pos 0) (pos 1000000000) (pos burned)
    ∷ []
fields_of_kind (Proxy heat_rate fuel_price category burned) =
    limited HeatRate (pos 1000) (pos 50000) (pos heat_rate)
    ∷ limited FuelPrice (pos 0) (pos 100000) fuel_price
    ∷ limited Category (pos 1) (pos 12) (pos category)
    ∷ limited FuelBurned (pos 0) (pos 1000000000) (pos burned)
    ∷ []
fields_of_kind (Storage charging_cost category) =
    limited ChargingCost (pos 0) (pos 1000000) charging_cost
    ∷ limited Category (pos 1) (pos 12) (pos category)
    ∷ []

-- the first fields, which a row of any kind uses
abbrev pub first_fields : LossRow → List Limited
first_fields row =
    limited Resource (pos 1) (pos 9999) (pos row.resource)
    ∷ limited SettlementPointPrice (negsuc 99999) (pos 1000000) row.spp
    ∷ limited Generation (pos 0) (pos 500000) (pos row.generation)
    ∷ []

-- the last field, which a row of any kind uses
abbrev pub last_fields : LossRow → List Limited
last_fields row = limited Cap (pos 0) (pos 1000000) row.cap ∷ []

-- the fields that a row uses
abbrev pub fields_of : LossRow → List Limited
fields_of row = first_fields row ++ (fields_of_kind row.kind ++ last_fields row)

-- each field is in its limits
abbrev pub Within : List Limited → Type 0
Within [] = Unit {0}
Within (x ∷ xs) = ((x.least ≤ℤ x.value) × (x.value ≤ℤ x.most)) × Within xs

-- a row whose fields are all in their limits
pub record Fitting (row : LossRow) : Type 0 where
  pub first : Within (first_fields row)
  pub own : Within (fields_of_kind row.kind)
  pub last : Within (last_fields row)

-- the first field that is outside its limits, if one is
abbrev pub outside_in : List Limited → Option Field
outside_in [] = None
outside_in (x ∷ xs) = cond (outside x.least x.most x.value) (Some x.field) (outside_in xs)

-- the first field of a row that is
unfoldable pub bad_field : LossRow → Option Field
bad_field row = outside_in (fields_of row)

-- what a check answers: there is no such field, or which it is
abbrev pub Checked : Option Field → Result (Unit {0}) Field → Type 0
Checked bad answer = MatchResult answer (λ _. bad ≡ None) (λ field. bad ≡ Some field)

-- a value, unless there is such a field
abbrev pub unless : {T : Type 0} → Option Field → T → Result T Field
unless None value = Ok value
unless (Some field) value = Err field
