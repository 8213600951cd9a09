-- The signed weights of the rule, tied to the magnitudes that the code adds up.
use Rattle.std.proofs.Common.{◌≡◌, ℕ, zero, suc, ◌<◌, ◌≤◌, true, false, List, [], ◌∷◌, ℤ, pos, ◌+ℤ◌, ◌*ℤ◌, neg_ℤ, nat_abs, sum_by, sym, refl, ap, ◌∙◌, mul-le-mul, arith}
use borrow.Author.Differences.{ints}
use lib.IntN.{neg_ℤ-neg_ℤ, neg_ℤ-+ℤ, *ℤ-negsuc}
use Rattle.std.specs.List.{AllByRecursion}
use Rattle.std.proofs.lemmas.Int.{clamps}
use Rattle.std.proofs.lemmas.List.Sums.{sum_by-cons}
use Rattle.std.proofs.lemmas.Bool.{both_ways}
use Rattle.numbers.specs.Sums.{signed_sum}
use Rattle.numbers.proofs.Integers.{neg_scaled}
use Rattle.numbers.proofs.Sums.{signed_sum_cons}
use Rattle.rounding.specs.Nearest.{nearest_to, nearest_over}
use Rattle.emergency.specs.declared.slices.Slice.{Slice}
use Rattle.emergency.specs.declared.slices.Side.{Side}
use Rattle.emergency.specs.declared.slices.Side.TheVariants.{Above, Below}
use Rattle.emergency.specs.Energy.{some, reach, weight}
use Rattle.emergency.specs.Weights.{weight_of, Limited}

-- a slice counts
reach_some : (side : Side) (x : Slice) → 1 ≤ nat_abs (reach side x)
reach_some Above x = omega (arith, ints, clamps)
reach_some Below x = omega (arith, ints, clamps)

pub weight_some : (side : Side) (x : Slice) → Limited x → 1 ≤ weight_of side x
weight_some side x h = omega (arith, mul-le-mul (reach_some side x) h.0)

pub weights_some : (side : Side) (xs : List Slice) → AllByRecursion Limited xs → some side xs ≡ true → 0 < sum_by (weight_of side) xs
weights_some side [] h e = absurd (both_ways false refl e)
weights_some side (x ∷ xs) h e = omega (arith, sum_by-cons (weight_of side) x xs, weight_some side x h.0)

-- a number with the sign of its side
abbrev facing : Side → ℤ → ℤ
facing Above z = z
facing Below z = neg_ℤ z

facing_add : (side : Side) (a b : ℤ) → facing side a +ℤ facing side b ≡ facing side (a +ℤ b)
facing_add Above a b = refl
facing_add Below a b = sym (neg_ℤ-+ℤ a b)

-- one weight, and a price by it
weight_faces : (side : Side) (x : Slice) → weight side x ≡ facing side (pos (weight_of side x))
weight_faces Above x = let e : reach Above x ≡ pos (nat_abs (reach Above x)) = omega (arith, ints, clamps) in ap (λ z. z *ℤ pos x.seconds) e
weight_faces Below x =
    let e : reach Below x ≡ neg_ℤ (pos (nat_abs (reach Below x))) = omega (arith, ints, clamps) in
    ap (λ z. z *ℤ pos x.seconds) e ∙ neg_scaled (nat_abs (reach Below x)) x.seconds

times_neg : (p : ℤ) (w : ℕ) → p *ℤ neg_ℤ (pos w) ≡ neg_ℤ (p *ℤ pos w)
times_neg p zero = omega (arith, ints)
times_neg p (suc w) = *ℤ-negsuc p w

times_faces : (side : Side) (p : ℤ) (w : ℕ) → p *ℤ facing side (pos w) ≡ facing side (p *ℤ pos w)
times_faces Above p w = refl
times_faces Below p w = times_neg p w

-- a sum of such terms
sum_faces : (side : Side) (f g : Slice → ℤ) → ((x : Slice) → f x ≡ facing side (g x)) → (xs : List Slice) → signed_sum f xs ≡ facing side (signed_sum g xs)
sum_faces Above f g e [] = refl
sum_faces Below f g e [] = refl
sum_faces side f g e (x ∷ xs) =
    signed_sum_cons f x xs
    ∙ ap (λ z. z +ℤ signed_sum f xs) (e x)
    ∙ ap (λ z. facing side (g x) +ℤ z) (sum_faces side f g e xs)
    ∙ facing_add side (g x) (signed_sum g xs)
    ∙ ap (facing side) (sym (signed_sum_cons g x xs))

sum_natural : (side : Side) (xs : List Slice) → signed_sum (λ x. pos (weight_of side x)) xs ≡ pos (sum_by (weight_of side) xs)
sum_natural side [] = refl
sum_natural side (x ∷ xs) =
    signed_sum_cons (λ y. pos (weight_of side y)) x xs
    ∙ ap (λ z. pos (weight_of side x) +ℤ z) (sum_natural side xs)
    ∙ ap pos (sym (sum_by-cons (weight_of side) x xs))

-- the signs fall out of the quotient
over_faces : (side : Side) (n : ℤ) (d : ℕ) → 0 < d → nearest_over (facing side n) (facing side (pos d)) ≡ nearest_to n d
over_faces Above n d pd = refl
over_faces Below n zero pd = absurd (omega arith)
over_faces Below n (suc d) pd = ap (λ z. nearest_to z (suc d)) (neg_ℤ-neg_ℤ n)

-- the quotient of the rule is that of the magnitudes
pub quotient_is : (side : Side) (xs : List Slice) → 0 < sum_by (weight_of side) xs →
    nearest_to (signed_sum (λ x. x.price *ℤ pos (weight_of side x)) xs) (sum_by (weight_of side) xs) ≡ nearest_over (signed_sum (λ x. x.price *ℤ weight side x) xs) (signed_sum (weight side) xs)
quotient_is side xs some-weight =
    let top = sum_faces side (λ x. x.price *ℤ weight side x) (λ x. x.price *ℤ pos (weight_of side x)) (λ x. ap (λ z. x.price *ℤ z) (weight_faces side x) ∙ times_faces side x.price (weight_of side x)) xs in
    let bottom = sum_faces side (weight side) (λ x. pos (weight_of side x)) (weight_faces side) xs ∙ ap (facing side) (sum_natural side xs) in
    sym (ap (λ z. nearest_over z (signed_sum (weight side) xs)) top ∙ ap (nearest_over (facing side (signed_sum (λ x. x.price *ℤ pos (weight_of side x)) xs))) bottom
    ∙ over_faces side (signed_sum (λ x. x.price *ℤ pos (weight_of side x)) xs) (sum_by (weight_of side) xs) some-weight)
