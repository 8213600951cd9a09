-- What a row is paid on a curve, with each step.
use Rattle.std.specs.Prelude.{ℕ, ◌≤◌, List, map, length, ℤ, pos, slice_index, slice_index_or, unsigned_abs}
use Rattle.std.specs.List.{range_with_len}
use Rattle.curves.specs.declared.points.Point.{Point}
use Rattle.curves.specs.Reading.{price_at}
use Rattle.emergency.specs.declared.row.EmergencyRow.{EmergencyRow}
use Rattle.emergency.specs.declared.payment.Leg.{Leg}
use Rattle.emergency.specs.declared.payment.Payment.{Payment}
use Rattle.emergency.specs.declared.slices.Slice.{Slice}
use Rattle.emergency.specs.declared.slices.Side.TheVariants.{Above, Below}
use Rattle.emergency.specs.Energy.{mean_price, discharged, charged, amount, basis}

-- a slice of its seconds, base point and price
abbrev pub slice : ℕ → ℤ → ℤ → Slice
slice seconds base price = record { seconds = seconds; base = base; price = price }

-- each slice with its base point and its price: the reading under the cap
unfoldable pub sliced : List Point → ℤ → List ℕ → List ℤ → List Slice
sliced points cap seconds bases =
    map (λ k. slice (slice_index seconds k) (slice_index_or bases k (pos 0)) (price_at points cap (slice_index_or bases k (pos 0)))) (range_with_len 0 (length seconds))

-- W and E, V and D, the amount and the basis
abbrev pub paid : List Slice → ℤ → ℕ → ℤ → Payment
paid xs spp generation charging = record {
  discharging = record { price = mean_price Above xs; energy = discharged generation xs };
  charging = record { price = mean_price Below xs; energy = charged charging xs };
  amount = amount spp generation charging xs;
  basis = basis generation charging xs;
}

-- a price within ±1,000,000 and an energy within ±500,000
abbrev pub Moderate : Leg → Type 0
Moderate leg = (unsigned_abs leg.price ≤ 1000000) × (unsigned_abs leg.energy ≤ 500000)

-- what a row is paid on a curve's points
unfoldable pub paid_on : List ℕ → List Point → EmergencyRow → Payment
paid_on seconds points row = paid (sliced points row.cap seconds row.bases) row.spp row.generation row.charging
