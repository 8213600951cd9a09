-- The limits of a row's fields, in the order in which they are checked.
use Rattle.std.specs.Prelude.{ℕ, ◌≤◌, cond, ◌||◌, Option, Some, None, take, pos, negsuc, ◌≤ℤ◌, nat_lt, unsigned_abs}
use Rattle.numbers.specs.Ranges.{outside, strays, Small}
use Rattle.emergency.specs.declared.row.EmergencyRow.{EmergencyRow}
use Rattle.emergency.specs.declared.row.Field.{Field}
use Rattle.emergency.specs.declared.row.Field.TheVariants.{Resource, SettlementPointPrice, Generation, Charging, BasePoint, Hour, Cap}

-- the first field that is outside its limits, in a quarter hour of m slices, if one is
unfoldable pub bad_field : ℕ → EmergencyRow → Option Field
bad_field m row =
    cond (nat_lt row.resource 1 || nat_lt 9999 row.resource) (Some Resource)
    (cond (outside (negsuc 99999) (pos 1000000) row.spp) (Some SettlementPointPrice)
    (cond (nat_lt 500000 row.generation) (Some Generation)
    (cond (outside (negsuc 499999) (pos 0) row.charging) (Some Charging)
    (cond (strays (negsuc 1999999) (pos 2000000) (take m row.bases)) (Some BasePoint)
    (cond (nat_lt row.hour 1 || nat_lt 25 row.hour) (Some Hour)
    (cond (outside (pos 0) (pos 1000000) row.cap) (Some Cap) None))))))

-- a row whose fields are all in their limits
pub record Fitting (m : ℕ) (row : EmergencyRow) : Type 0 where
  pub low : 1 ≤ row.resource
  pub high : row.resource ≤ 9999
  pub spp : unsigned_abs row.spp ≤ 1000000
  pub generation : row.generation ≤ 500000
  pub least : negsuc 499999 ≤ℤ row.charging
  pub below : row.charging ≤ℤ pos 0
  pub near : Small 2000000 m row.bases
  pub free : pos 0 ≤ℤ row.cap
  pub capped : row.cap ≤ℤ pos 1000000
