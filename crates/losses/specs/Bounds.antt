-- What the field checks leave, and so how large a loss and its basis can be. Proved here.
use Rattle.std.specs.Prelude.{◌≡◌, ℕ, ◌-◌, ◌≤◌, cond, Bool, true, false, nat_le, List, [], ◌∷◌, ◌++◌, Option, Some, None, ℤ, pos, ◌*ℤ◌, ◌-ℤ◌, ◌≤ℤ◌, unsigned_abs, refl}
use Rattle.std.specs.Int.{int_max}
use Rattle.std.proofs.Common.{sym, mul-le-mul, mul-le-mul_left, arith}
use borrow.Author.Differences.{ints}
use Rattle.std.proofs.lemmas.Int.{to_z-of_z, clamps}
use Rattle.std.proofs.lemmas.Bool.{cond_both}
use Rattle.std.proofs.lemmas.List.Folds.{list_all_at}
use Rattle.numbers.specs.Ranges.{outside}
use Rattle.numbers.proofs.Ranges.{inside}
use Rattle.numbers.proofs.Integers.{abs_scaled, scaled_le}
use Rattle.rounding.proofs.Laws.{nearest_within}
use Rattle.charges.specs.Lines.{Ranged, Based}
use Rattle.losses.specs.declared.row.Field.{Field}
use Rattle.losses.specs.declared.row.Kind.{Kind}
use Rattle.losses.specs.declared.row.Kind.TheVariants.{Verified, Proxy, Storage}
use Rattle.losses.specs.declared.row.LossRow.{LossRow}
use Rattle.losses.specs.Fields.{Limited, Within, outside_in, first_fields, fields_of_kind, last_fields, fields_of, bad_field, unless, Fitting}
use Rattle.losses.specs.Categories.{category_costs, category_cost}
use Rattle.losses.specs.Losses.{fuel_cost, marginal_cost, quantity, qualifies, price, operating_loss, loss_in}
use Rattle.losses.specs.Lines.{line_with, loss_line, basis_in, loss_basis}

-- where none is outside, each is within
pub within : (xs : List Limited) → outside_in xs ≡ None → Within xs
within [] e = tt
within (x ∷ xs) e = let p = passed (outside x.least x.most x.value) x.field (outside_in xs) e in (inside x.least x.most x.value p.0, within xs p.1)
  where
    passed : (b : Bool) (f : Field) (o : Option Field) → cond b (Some f) o ≡ None → (b ≡ false) × (o ≡ None)
    passed true f o e = cc
    passed false f o e = (refl, e)

-- in both of two lists
pub within_both : (xs ys : List Limited) → Within (xs ++ ys) → Within xs × Within ys
within_both [] ys w = (tt, w)
within_both (x ∷ xs) ys w = let p = within_both xs ys w.1 in ((w.0, p.0), p.1)

pub fuel_small : (heat_rate : ℕ) (fuel_price : ℤ) → heat_rate ≤ 50000 → unsigned_abs fuel_price ≤ 100000 → unsigned_abs (fuel_cost heat_rate fuel_price) ≤ 5000000
fuel_small heat_rate fuel_price h p =
    nearest_within (fuel_price *ℤ pos heat_rate) 1000 5000000 (omega arith) (omega (arith, abs_scaled fuel_price heat_rate, mul-le-mul p h))

pub ruleset fuel = (to_z-of_z, fuel_small)

pub category_small : (category : ℕ) → 1 ≤ category → category ≤ 12 → category_cost category ≤ 650
category_small category low high = grind (arith, list_all_at (λ n. nat_le n 650) category_costs (category - 1) 0)

pub cost_small : (kind : Kind) → Within (fields_of_kind kind) → unsigned_abs (marginal_cost kind) ≤ 5010000
cost_small (Verified heat_rate fuel_price own_cost burned) w =
    omega (arith, ints, fuel_small heat_rate fuel_price (omega (arith, ints)) (omega (arith, ints)))
cost_small (Proxy heat_rate fuel_price category burned) w =
    omega (arith, ints, fuel_small heat_rate fuel_price (omega (arith, ints)) (omega (arith, ints)), category_small category (omega (arith, ints)) (omega (arith, ints)))
cost_small (Storage charging_cost category) w =
    omega (arith, ints, category_small category (omega (arith, ints)) (omega (arith, ints)))

pub operating_loss_small : (margin : ℤ) (energy : ℕ) → margin ≤ℤ pos 5010000 → energy ≤ 500000 → unsigned_abs (operating_loss margin energy) ≤ 3000000000
unfolding operating_loss
operating_loss_small margin energy m e =
    nearest_within (int_max (margin *ℤ pos energy) (pos 0)) 1000 3000000000 (omega arith)
    (omega (arith, ints, clamps, scaled_le margin (pos 5010000) energy m, mul-le-mul_left 5010000 e))

-- a row that the checks let pass
pub fitting : (row : LossRow) → bad_field row ≡ None → Fitting row
unfolding bad_field
fitting row e =
    let rest = within_both (first_fields row) (fields_of_kind row.kind ++ last_fields row) (within (fields_of row) e) in
    let parts = within_both (fields_of_kind row.kind) (last_fields row) rest.1 in
    record { first = rest.0; own = parts.0; last = parts.1 }

pub quantity_small : (generation : ℕ) (kind : Kind) → quantity generation kind ≤ generation
quantity_small generation (Verified heat_rate fuel_price own_cost burned) = omega arith
quantity_small generation (Proxy heat_rate fuel_price category burned) = omega arith
quantity_small generation (Storage charging_cost category) = omega arith

-- a row's line is in range
pub loss_ranged : (n : ℕ) (row : LossRow) → Ranged (loss_line n row)
unfolding loss_in
loss_ranged n row = ranged_at (bad_field row) refl
  where
    ranged_at : (o : Option Field) → o ≡ bad_field row → Ranged (line_with n row (unless o (loss_in row)))
    ranged_at (Some field) e = tt
    ranged_at None e =
        let fit = fitting row (sym e) in
        let margin : (marginal_cost row.kind -ℤ price row) ≤ℤ pos 5010000 = omega (arith, ints, clamps, cost_small row.kind fit.own) in
        let energy : quantity row.generation row.kind ≤ 500000 = omega (arith, ints, quantity_small row.generation row.kind) in (
          omega (arith, ints),
          omega (arith, ints),
          cond_both (qualifies row) _ _ (λ amount. unsigned_abs amount ≤ 3000000000) (λ _. omega (arith, ints, operating_loss_small (marginal_cost row.kind -ℤ price row) (quantity row.generation row.kind) margin energy)) (λ _. omega arith),
        )

-- and its basis
pub loss_based : (n : ℕ) (row : LossRow) → Based (loss_line n row) (loss_basis row)
unfolding loss_in
loss_based n row = based_at (bad_field row) refl
  where
    based_at : (o : Option Field) → o ≡ bad_field row → Based (line_with n row (unless o (loss_in row))) (basis_in (unless o (loss_in row)))
    based_at (Some field) e = refl
    based_at None e =
        let fit = fitting row (sym e) in
        cond_both (qualifies row) _ _ (λ basis. basis ≤ 1000000) (λ _. omega (arith, ints, quantity_small row.generation row.kind)) (λ _. omega arith)
