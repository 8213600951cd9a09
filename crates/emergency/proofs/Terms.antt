-- One term of a sum over the slices, and the sums.
use Rattle.std.proofs.Common.{◌≡◌, ℕ, ◌+◌, ◌*◌, ◌≤◌, List, [], ◌∷◌, ◌++◌, length, ℤ, pos, ◌+ℤ◌, nat_abs, fold, sum_by, ap, ◌∙◌, ◌||◌, mul-le-mul, arith}
use borrow.Author.Differences.{ints}
use Rattle.std.specs.List.{AllByRecursion}
use Rattle.std.proofs.Math.Bool.{or-false}
use Rattle.std.proofs.lemmas.Int.{clamps}
use Rattle.std.proofs.lemmas.List.Folds.{list_any-append}
use Rattle.std.proofs.lemmas.List.Sums.{sum_by-cons, fold-append}
use Rattle.numbers.proofs.Integers.{abs_scaled}
use Rattle.emergency.specs.declared.slices.Slice.{Slice}
use Rattle.emergency.specs.declared.slices.Side.{Side}
use Rattle.emergency.specs.declared.slices.Side.TheVariants.{Above, Below}
use Rattle.emergency.specs.Energy.{lies, some, reach, power}
use Rattle.emergency.specs.Sums.{priced, worked, sums_of, one_more, Roomy}
use Rattle.emergency.specs.Weights.{weight_of, Limited}

-- a term's limit
abbrev pub limit : ℕ
limit = 1800000000000000

reach_small : (side : Side) (x : Slice) → nat_abs x.base ≤ 2000000 → nat_abs (reach side x) ≤ 2000000
reach_small Above x h = omega (arith, ints, clamps)
reach_small Below x h = omega (arith, ints, clamps)

power_small : (side : Side) (x : Slice) → nat_abs x.base ≤ 2000000 → nat_abs (power side x) ≤ 2000000
power_small Above x h = omega (arith, ints, clamps)
power_small Below x h = omega (arith, ints, clamps)

weight_small : (side : Side) (x : Slice) → Limited x → weight_of side x ≤ 1800000000
weight_small side x h = omega (arith, mul-le-mul (reach_small side x h.2) h.1)

-- a price by its weight, and a power as long as it lasts
pub price_small : (side : Side) (x : Slice) → Limited x → nat_abs (priced side x) ≤ limit
price_small side x h = omega (arith, abs_scaled x.price (weight_of side x), mul-le-mul h.3 (weight_small side x h))

pub work_small : (side : Side) (x : Slice) → Limited x → nat_abs (worked side x) ≤ limit
work_small side x h = omega (arith, abs_scaled (power side x) x.seconds, mul-le-mul (power_small side x h.2) h.1)

-- sums of such terms
signed_small : (f : Slice → ℤ) → ((x : Slice) → Limited x → nat_abs (f x) ≤ limit) → (xs : List Slice) (a : ℤ) → AllByRecursion Limited xs → nat_abs (fold (λ b x. b +ℤ f x) a xs) ≤ nat_abs a + limit * length xs
signed_small f small [] a h = omega arith
signed_small f small (x ∷ xs) a h = omega (arith, ints, signed_small f small xs (a +ℤ f x) h.1, small x h.0)

weights_small : (side : Side) (xs : List Slice) → AllByRecursion Limited xs → sum_by (weight_of side) xs ≤ 1800000000 * length xs
weights_small side [] h = omega arith
weights_small side (x ∷ xs) h = omega (arith, sum_by-cons (weight_of side) x xs, weight_small side x h.0, weights_small side xs h.1)

pub roomy : (side : Side) (xs : List Slice) → AllByRecursion Limited xs → length xs ≤ 14 → Roomy (sums_of side xs)
roomy side xs h few = record {
  weights = omega (arith, weights_small side xs h);
  prices = omega (arith, signed_small (priced side) (price_small side) xs (pos 0) h);
  work = omega (arith, signed_small (worked side) (work_small side) xs (pos 0) h);
}

-- one slice more
pub sums_more : (side : Side) (xs : List Slice) (x : Slice) → sums_of side (xs ++ x ∷ []) ≡ one_more side x (sums_of side xs)
sums_more side xs x =
    let any : some side (xs ++ x ∷ []) ≡ (some side xs || lies side x) = list_any-append (lies side) xs (x ∷ []) ∙ ap (λ b. some side xs || b) (or-false (lies side x)) in
    let weights = fold-append (λ m y. m + weight_of side y) 0 xs (x ∷ []) in
    let prices = fold-append (λ z y. z +ℤ priced side y) (pos 0) xs (x ∷ []) in
    let work = fold-append (λ z y. z +ℤ worked side y) (pos 0) xs (x ∷ []) in
    cc (any, weights, prices, work)
