-- What the limits of the slices and fields give: prices within 1,000,000, energies within 500,000, so amounts and bases within theirs.
use Rattle.std.proofs.Common.{◌≡◌, ℕ, ◌+◌, ◌*◌, ◌<◌, ◌≤◌, Bool, true, false, cond, refl, List, [], ◌∷◌, ℤ, pos, negsuc, ◌+ℤ◌, ◌-ℤ◌, ◌*ℤ◌, nat_abs, ◌≤ℤ◌, fold, sum_by, subst, mul-le-mul_right, mul-le-mul, arith}
use borrow.Author.Differences.{ints}
use Rattle.std.specs.Int.{int_min, int_max}
use Rattle.std.specs.List.{AllByRecursion, All}
use Rattle.std.proofs.lemmas.List.Elements.{recursion_from_All}
use Rattle.std.proofs.lemmas.Int.{clamps}
use Rattle.std.proofs.lemmas.List.Sums.{sum_by-cons}
use Rattle.std.proofs.lemmas.Bool.{cond_both}
use Rattle.numbers.proofs.Integers.{abs_scaled, abs_times}
use Rattle.numbers.specs.Sums.{signed_sum}
use Rattle.rounding.specs.Nearest.{nearest_to}
use Rattle.rounding.proofs.Laws.{nearest_within}
use Rattle.emergency.specs.declared.slices.Slice.{Slice}
use Rattle.emergency.specs.declared.slices.Side.{Side}
use Rattle.emergency.specs.declared.slices.Side.TheVariants.{Above, Below}
use Rattle.emergency.specs.Energy.{some, mean_price, scheduled, discharged, charged, due, amount, basis}
use Rattle.emergency.specs.Sums.{worked, sums_of, mean_of, energy_of}
use Rattle.emergency.specs.Weights.{weight_of, Limited}
use Rattle.emergency.proofs.Weights.{weights_some, quotient_is}

-- a price counts no more than a million times its weight
term_small : (side : Side) (x : Slice) → Limited x → nat_abs (x.price *ℤ pos (weight_of side x)) ≤ 1000000 * weight_of side x
term_small side x h = omega (arith, abs_scaled x.price (weight_of side x), mul-le-mul_right (weight_of side x) h.3)

sum_small : (side : Side) (xs : List Slice) (a : ℤ) → AllByRecursion Limited xs →
    nat_abs (fold (λ b x. b +ℤ x.price *ℤ pos (weight_of side x)) a xs) ≤ nat_abs a + 1000000 * sum_by (weight_of side) xs
sum_small side [] a h = omega arith
sum_small side (x ∷ xs) a h =
    omega (arith, ints, sum_small side xs (a +ℤ x.price *ℤ pos (weight_of side x)) h.1, sum_by-cons (weight_of side) x xs, term_small side x h.0)

pub mean_small : (side : Side) (xs : List Slice) → AllByRecursion Limited xs → nat_abs (mean_price side xs) ≤ 1000000
unfolding mean_price
mean_small side xs h =
    cond_both (some side xs) _ (pos 0) (λ z. nat_abs z ≤ 1000000)
    (λ e. let w = weights_some side xs h e in
    subst (λ z. nat_abs z ≤ 1000000) (quotient_is side xs w) (nearest_within _ (sum_by (weight_of side) xs) 1000000 w (omega (arith, ints, sum_small side xs (pos 0) h))))
    (λ _. omega arith)

pub mean_each : (side : Side) (xs : List Slice) → All Limited xs → nat_abs (mean_price side xs) ≤ 1000000
mean_each side xs h = mean_small side xs (recursion_from_All Limited xs h)

pub weights_each : (side : Side) (xs : List Slice) → All Limited xs → some side xs ≡ true → 0 < sum_by (weight_of side) xs
weights_each side xs h e = weights_some side xs (recursion_from_All Limited xs h) e

same_if : (b : Bool) (x y z : ℤ) → (b ≡ true → x ≡ y) → cond b x z ≡ cond b y z
same_if true x y z e = e refl
same_if false x y z e = refl

-- the prices by the sums
pub mean_of_is : (side : Side) (xs : List Slice) → All Limited xs → mean_of (sums_of side xs) ≡ mean_price side xs
unfolding mean_price
mean_of_is side xs h = same_if (some side xs) _ _ (pos 0) (λ e. quotient_is side xs (weights_each side xs h e))

pub discharged_within : (g : ℕ) (xs : List Slice) → (pos 0 ≤ℤ discharged g xs) × (discharged g xs ≤ℤ pos g)
unfolding discharged
discharged_within g xs =
    cond_both (some Above xs) _ (pos 0) (λ z. (pos 0 ≤ℤ z) × (z ≤ℤ pos g))
    (λ _. (omega (arith, ints, clamps), omega (arith, ints, clamps))) (λ _. (omega (arith, ints), omega (arith, ints)))

pub charged_within : (c : ℤ) (xs : List Slice) → c ≤ℤ pos 0 → (c ≤ℤ charged c xs) × (charged c xs ≤ℤ pos 0)
unfolding charged
charged_within c xs h =
    cond_both (some Below xs) _ (pos 0) (λ z. (c ≤ℤ z) × (z ≤ℤ pos 0))
    (λ _. (omega (arith, ints, clamps), omega (arith, ints, clamps))) (λ _. (omega (arith, ints), omega (arith, ints)))

cut_small : (a b c : ℤ) → nat_abs a ≤ 500000000000 → nat_abs b ≤ 500000000000 → nat_abs c ≤ 500000000000 → nat_abs (int_min (pos 0) ((a -ℤ b) -ℤ c)) ≤ 3000000000 * 1000
cut_small a b c h i j = omega (arith, ints, clamps)

module _ (spp : ℤ) (g : ℕ) (c : ℤ) (xs : List Slice) (fspp : nat_abs spp ≤ 1000000) (fg : g ≤ 500000)
    (fc : negsuc 499999 ≤ℤ c) (fc0 : c ≤ℤ pos 0) (each : AllByRecursion Limited xs) where
  e_small : nat_abs (discharged g xs) ≤ 500000
  e_small = omega (arith, ints, discharged_within g xs)

  d_small : nat_abs (charged c xs) ≤ 500000
  d_small = omega (arith, ints, charged_within c xs fc0)

  sum_both : nat_abs (discharged g xs +ℤ charged c xs) ≤ 500000
  sum_both = omega (arith, ints, discharged_within g xs, charged_within c xs fc0)

  pub products : (nat_abs (spp *ℤ (discharged g xs +ℤ charged c xs)) ≤ 500000000000) × (nat_abs (mean_price Above xs *ℤ discharged g xs) ≤ 500000000000) × (nat_abs (mean_price Below xs *ℤ charged c xs) ≤ 500000000000)
  products = (
    omega (arith, abs_times spp (discharged g xs +ℤ charged c xs), mul-le-mul fspp sum_both),
    omega (arith, abs_times (mean_price Above xs) (discharged g xs), mul-le-mul (mean_small Above xs each) e_small),
    omega (arith, abs_times (mean_price Below xs) (charged c xs), mul-le-mul (mean_small Below xs each) d_small),
  )

  pub amount_small : nat_abs (amount spp g c xs) ≤ 3000000000
  unfolding amount
  amount_small =
      nearest_within (int_min (pos 0) (due spp (mean_price Above xs) (discharged g xs) (mean_price Below xs) (charged c xs))) 1000 3000000000 (omega arith) (cut_small (spp *ℤ (discharged g xs +ℤ charged c xs)) (mean_price Above xs *ℤ discharged g xs) (mean_price Below xs *ℤ charged c xs) products.0 products.1 products.2)

  pub basis_small : basis g c xs ≤ 1000000
  unfolding basis
  basis_small = omega (arith, ints, discharged_within g xs, charged_within c xs fc0)

-- the energies by the sums
pub energy_above : (g : ℕ) (xs : List Slice) → energy_of (pos 0) (pos g) (sums_of Above xs) ≡ discharged g xs
unfolding scheduled discharged
energy_above g xs = same_if (some Above xs) _ _ (pos 0) (λ _. clamped (nearest_to (signed_sum (worked Above) xs) 3600))
  where
    clamped : (z : ℤ) → int_max (pos 0) (int_min z (pos g)) ≡ int_max (pos 0) (int_min (pos g) z)
    clamped z = omega (arith, ints, clamps)

pub energy_below : (c : ℤ) (xs : List Slice) → c ≤ℤ pos 0 → energy_of c (pos 0) (sums_of Below xs) ≡ charged c xs
unfolding scheduled charged
energy_below c xs h = same_if (some Below xs) _ _ (pos 0) (λ _. clamped (nearest_to (signed_sum (worked Below) xs) 3600))
  where
    clamped : (z : ℤ) → int_max c (int_min z (pos 0)) ≡ int_min (pos 0) (int_max c z)
    clamped z = omega (arith, ints, clamps)
