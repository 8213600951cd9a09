-- Worked figures. A plant with verified costs: heat rate 9,500, fuel price 30,000, own O&M 500, 190,000 of fuel burned, 25,000 kWh generated, cap 200,000, both marks set. A plant by its category, and a store.
use Rattle.std.specs.Prelude.{◌≡◌, ℕ, Bool, true, false, ℤ, pos, negsuc, Ok, Err}
use Rattle.charges.specs.declared.fault.Cause.TheVariants.{FieldOutside}
use Rattle.charges.specs.declared.fault.Layer.TheVariants.{Source}
use Rattle.charges.specs.Faults.{fault_of}
use Rattle.losses.specs.declared.loss.Loss.{Loss}
use Rattle.losses.specs.declared.row.Field.TheVariants.{HeatRate, FuelPrice}
use Rattle.losses.specs.declared.row.Kind.{Kind}
use Rattle.losses.specs.declared.row.Kind.TheVariants.{Verified, Proxy, Storage}
use Rattle.losses.specs.declared.row.LossRow.{LossRow}
use Rattle.losses.specs.Lines.{loss_line, loss_basis}
use Rattle.losses.specs.Losses.{marginal_cost, loss_of}

-- a row of a kind at a settlement point price, with its two marks
abbrev pub marked : Kind → ℤ → Bool → Bool → LossRow
marked kind spp offer base = record {
  resource = 7;
  party = 2;
  spp = spp;
  generation = 25000;
  kind = kind;
  cap = pos 200000;
  offer_at_cap = offer;
  above_lsl = base;
}

-- with both marks set
abbrev pub row_of : Kind → ℤ → LossRow
row_of kind spp = marked kind spp true true

-- the plant with verified costs
abbrev pub plant : Kind
plant = Verified 9500 (pos 30000) (pos 500) 190000

-- a loss by its four figures
abbrev pub loss : ℤ → ℕ → ℤ → ℕ → Loss
loss cost quantity amount basis = record { cost = cost; quantity = quantity; amount = amount; basis = basis }

-- the figures
pub record Figures : Type 0 where
  pub cost : marginal_cost plant ≡ pos 285500
  pub line : loss_line 1 (row_of plant (pos 210000)) ≡ Ok (7, 2, negsuc 1509999)
  pub basis : loss_basis (row_of plant (pos 210000)) ≡ 20000
  pub lost : loss_of (row_of plant (pos 210000)) ≡ Ok (loss (pos 285500) 20000 (negsuc 1509999) 20000)
  pub at_cap : loss_of (row_of plant (pos 200000)) ≡ Ok (loss (pos 285500) 20000 (negsuc 1709999) 20000)
  pub below : loss_line 1 (row_of plant (pos 199999)) ≡ Ok (7, 2, pos 0)
  pub below_steps : loss_of (row_of plant (pos 199999)) ≡ Ok (loss (pos 285500) 20000 (pos 0) 0)
  pub no_offer : loss_of (marked plant (pos 210000) false true) ≡ Ok (loss (pos 285500) 20000 (pos 0) 0)
  pub no_base : loss_of (marked plant (pos 210000) true false) ≡ Ok (loss (pos 285500) 20000 (pos 0) 0)
  pub cheap : loss_of (row_of plant (pos 300000)) ≡ Ok (loss (pos 285500) 20000 (pos 0) 20000)
  pub proxy : loss_of (row_of (Proxy 9600 (pos 40000) 8 200000) (pos 200000)) ≡ Ok (loss (pos 384509) 20833 (negsuc 3843875) 20833)
  pub stored : loss_of (row_of (Storage (pos 250000) 1) (pos 210001)) ≡ Ok (loss (pos 250315) 25000 (negsuc 1007849) 25000)
  pub hot_first : loss_of (row_of (Verified 999 (pos 100001) (pos 500) 190000) (pos 210000)) ≡ Err HeatRate
  pub dear : loss_of (row_of (Proxy 1000 (pos 100001) 13 190000) (pos 210000)) ≡ Err FuelPrice
  pub no_category : loss_line 3 (row_of (Storage (pos 250000) 13) (pos 210000)) ≡ Err (fault_of FieldOutside 3 8 Source)
