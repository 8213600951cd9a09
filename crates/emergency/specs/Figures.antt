-- Worked figures: the curve of (50,000 kW; 2,000) and (150,000 kW; 4,000), 600 s at 100,000 kW and 300 s at 150,000 kW, 30,000 kWh generated, cap 900,000; and one slice at −20,000 kW.
use Rattle.std.specs.Prelude.{◌≡◌, ℕ, List, [], ◌∷◌, replicate, ℤ, pos, negsuc, Some}
use Rattle.curves.specs.Completion.{completed}
use Rattle.curves.specs.Figures.{k_row}
use Rattle.emergency.specs.declared.row.EmergencyRow.{EmergencyRow}
use Rattle.emergency.specs.declared.row.Field.TheVariants.{SettlementPointPrice}
use Rattle.emergency.specs.declared.slices.Slice.{Slice}
use Rattle.emergency.specs.declared.slices.Side.TheVariants.{Above}
use Rattle.emergency.specs.Energy.{mean_price, discharged, charged, amount}
use Rattle.emergency.specs.Fields.{bad_field}
use Rattle.emergency.specs.Payments.{slice, sliced, paid, paid_on}

-- the row, at a settlement point price
abbrev pub two_slices : ℤ → EmergencyRow
two_slices spp = record {
  resource = 7;
  party = 2;
  spp = spp;
  generation = 30000;
  charging = pos 0;
  bases = pos 100000 ∷ pos 150000 ∷ replicate 13 (pos 0);
  hour = 9;
  cap = pos 900000;
}

-- its slices' seconds
abbrev pub seconds : List ℕ
seconds = 600 ∷ 300 ∷ []

-- its slices
abbrev pub k_slices : List Slice
k_slices = sliced (completed (k_row (pos 50000))) (pos 900000) seconds (two_slices (pos 0)).bases

-- one slice at −20,000, priced 3,000
abbrev pub drawing : List Slice
drawing = slice 900 (negsuc 19999) (pos 3000) ∷ []

-- the figures
pub record Figures : Type 0 where
  pub mean : mean_price Above k_slices ≡ pos 3429
  pub energy : discharged 30000 k_slices ≡ pos 29167
  pub low : amount (pos 3000) 30000 (pos 0) k_slices ≡ negsuc 12512
  pub level : amount (pos 3429) 30000 (pos 0) k_slices ≡ pos 0
  pub row : paid_on seconds (completed (k_row (pos 50000))) (two_slices (pos 3000)) ≡ paid k_slices (pos 3000) 30000 (pos 0)
  pub dear : bad_field 2 (two_slices (pos 1000001)) ≡ Some SettlementPointPrice
  pub drawn : charged (negsuc 5999) drawing ≡ negsuc 4999
  pub drawn_amount : amount (pos 5000) 0 (negsuc 5999) drawing ≡ negsuc 9999
