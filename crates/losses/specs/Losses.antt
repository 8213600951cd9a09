-- The operating loss of a row, and what is paid for it. Prices and costs are cents per MWh, energies kWh, amounts cents; heat rates are thousandths of MMBtu per MWh, fuel prices cents per MMBtu, fuel burned thousandths of MMBtu.
use Rattle.std.specs.Prelude.{ℕ, ◌*◌, min, Bool, cond, ◌&&◌, ℤ, pos, ◌+ℤ◌, ◌-ℤ◌, ◌*ℤ◌, neg_ℤ, int_le, Result, unsigned_abs}
use Rattle.std.specs.Int.{int_max}
use Rattle.rounding.specs.Nearest.{nearest_to}
use Rattle.losses.specs.declared.loss.Loss.{Loss}
use Rattle.losses.specs.declared.row.Field.{Field}
use Rattle.losses.specs.declared.row.Kind.{Kind}
use Rattle.losses.specs.declared.row.Kind.TheVariants.{Verified, Proxy, Storage}
use Rattle.losses.specs.declared.row.LossRow.{LossRow}
use Rattle.losses.specs.Categories.{category_cost}
use Rattle.losses.specs.Fields.{bad_field, unless}

-- the fuel for a MWh: the nearest to H × P / 1000
abbrev pub fuel_cost : ℕ → ℤ → ℤ
fuel_cost heat_rate fuel_price = nearest_to (fuel_price *ℤ pos heat_rate) 1000

-- what one more MWh costs: the fuel and the resource's own O&M, the fuel and its category's O&M, or the charging and its category's O&M
abbrev pub marginal_cost : Kind → ℤ
marginal_cost (Verified heat_rate fuel_price own_cost burned) = fuel_cost heat_rate fuel_price +ℤ own_cost
marginal_cost (Proxy heat_rate fuel_price category burned) = fuel_cost heat_rate fuel_price +ℤ pos (category_cost category)
marginal_cost (Storage charging_cost category) = charging_cost +ℤ pos (category_cost category)

-- what the fuel burned gives: the nearest to 1000 × B / H
abbrev pub marginal_energy : ℕ → ℕ → ℕ
marginal_energy heat_rate burned = unsigned_abs (nearest_to (pos (1000 * burned)) heat_rate)

-- Q: what was generated, and where fuel is burned no more than the fuel gives
abbrev pub quantity : ℕ → Kind → ℕ
quantity generation (Verified heat_rate fuel_price own_cost burned) = min generation (marginal_energy heat_rate burned)
quantity generation (Proxy heat_rate fuel_price category burned) = min generation (marginal_energy heat_rate burned)
quantity generation (Storage charging_cost category) = generation

-- a loss is paid where SPP is at or above the cap, and both marks are set: the offer at the cap, and the base point above the low limit
abbrev pub qualifies : LossRow → Bool
qualifies row = int_le row.cap row.spp && row.offer_at_cap && row.above_lsl

-- the price that the cost is held against: max(cap, SPP)
abbrev pub price : LossRow → ℤ
price row = int_max row.cap row.spp

-- what the energy cost above its price, at a margin of cost over price: the nearest to max(margin × Q, 0) / 1000
unfoldable pub operating_loss : ℤ → ℕ → ℤ
operating_loss margin energy = nearest_to (int_max (margin *ℤ pos energy) (pos 0)) 1000

-- cost and Q, and where the loss is paid the amount, which the party receives, and Q as its basis; else both are 0
unfoldable pub loss_in : LossRow → Loss
loss_in row = record {
  cost = marginal_cost row.kind;
  quantity = quantity row.generation row.kind;
  amount = cond (qualifies row) (neg_ℤ (operating_loss (marginal_cost row.kind -ℤ price row) (quantity row.generation row.kind))) (pos 0);
  basis = cond (qualifies row) (quantity row.generation row.kind) 0;
}

-- the loss of a row, or its first field that is outside its limits
abbrev pub loss_of : LossRow → Result Loss Field
loss_of row = unless (bad_field row) (loss_in row)
