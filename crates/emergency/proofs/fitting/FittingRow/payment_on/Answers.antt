use Rattle.std.proofs.Common.{◌≡◌, ℕ, ◌<◌, ◌≤◌, true, List, ℤ, pos, negsuc, ◌-ℤ◌, ◌≤ℤ◌, nat_abs, sym, ap, ◌∙◌, subst, arith, w32, w64, Fits, SFits, to_z, of_z}
use borrow.Author.Differences.{ints}
use lib.Dec.{T}
use lib.Signed.{non_neg}
use Rattle.std.specs.Int.{int_min}
use Rattle.std.specs.List.{All}
use Rattle.std.proofs.lemmas.Int.{to_z-of_z, clamps}
use Rattle.rounding.specs.Nearest.{nearest_to}
use Rattle.curves.specs.declared.curve.Curve.{Curve}
use Rattle.curves.specs.Curves.{points_of}
use Rattle.quarters.specs.Quarters.{slices_of}
use Rattle.emergency.specs.declared.fitting.FittingRow.{FittingRow}
use Rattle.emergency.specs.declared.payment.Payment.{Payment}
use Rattle.emergency.specs.declared.slices.Slice.{Slice}
use Rattle.emergency.specs.declared.slices.Side.{Side}
use Rattle.emergency.specs.declared.slices.Side.TheVariants.{Above, Below}
use Rattle.emergency.specs.declared.sums.Sums.{Sums}
use Rattle.emergency.specs.Energy.{amount, basis, due, mean_price, discharged, charged}
use Rattle.emergency.specs.Payments.{sliced, paid_on}
use Rattle.emergency.specs.Sums.{sums_of, mean_of, energy_of}
use Rattle.emergency.specs.Weights.{Limited}
use Rattle.emergency.proofs.Limits.{cheap, sliced_limited}
use Rattle.emergency.proofs.Ranges.{weights_each, mean_each, mean_of_is, energy_above, energy_below}
use Rattle.emergency.proofs.fitting.FittingRow.payment_on.Goals as goal

-- the slices of a row on a curve
abbrev slices : FittingRow → Curve → List Slice
slices f curve = sliced (points_of curve) f.row.now.cap (slices_of f.quarter.now) f.row.now.bases

each : (f : FittingRow) (curve : Curve) → All Limited (slices f curve)
each f curve = sliced_limited (points_of curve) (slices_of f.quarter.now) f.row.now (cheap curve) f.quarter.now.each f.fits

some : (side : Side) (xs : List Slice) (sums : Sums) → All Limited xs → sums ≡ sums_of side xs → sums.any ≡ true → 0 < sums.weights
some side xs sums h is = subst (λ (s : Sums). s.any ≡ true → 0 < s.weights) (sym is) (weights_each side xs h)

priced : (side : Side) (xs : List Slice) (sums : Sums) (price : ℤ) → All Limited xs → sums ≡ sums_of side xs → price ≡ mean_of sums → price ≡ mean_price side xs
priced side xs sums price h is value = value ∙ ap mean_of is ∙ mean_of_is side xs h

small : (side : Side) (xs : List Slice) (price : ℤ) → All Limited xs → price ≡ mean_price side xs → nat_abs price ≤ 1000000
small side xs price h is = subst (λ z. nat_abs z ≤ 1000000) (sym is) (mean_each side xs h)

pub leg-discharging-requires-clause-some : goal.leg-discharging-requires-clause-some
leg-discharging-requires-clause-some c = some Above _ _ (each c.args.self.now c.args.curve.now) c.above_and_below.ensures.above

pub leg-charging-requires-clause-some : goal.leg-charging-requires-clause-some
leg-charging-requires-clause-some c = some Below _ _ (each c.args.self.now c.args.curve.now) c.above_and_below.ensures.below

pub due-owed-requires-clause-above : goal.due-owed-requires-clause-above
due-owed-requires-clause-above c =
    let h = each c.args.self.now c.args.curve.now in
    let fits = c.args.self.now.fits in
    (small Above _ _ h (priced Above _ _ _ h c.above_and_below.ensures.above c.leg-discharging.ensures.price), omega (arith, ints, fits.generation, c.leg-discharging.ensures.within, c.from.ensures))

pub due-owed-requires-clause-below : goal.due-owed-requires-clause-below
due-owed-requires-clause-below c =
    let h = each c.args.self.now c.args.curve.now in
    let fits = c.args.self.now.fits in
    (small Below _ _ h (priced Below _ _ _ h c.above_and_below.ensures.below c.leg-charging.ensures.price), omega (arith, ints, fits.least, fits.below, c.leg-charging.ensures.within, c.from-2.ensures))

pub overflow_sub-result : goal.overflow_sub-result
overflow_sub-result c = let fits = c.args.self.now.fits in omega (arith, ints, fits.generation, fits.least, c.leg-discharging.ensures.within, c.leg-charging.ensures.within, c.from.ensures, c.from-2.ensures)

natural : (z : ℤ) → pos 0 ≤ℤ z → z ≤ℤ pos 1000000 → T (non_neg z) × Fits w32 (nat_abs z)
natural (pos n) h k = (tt, omega (arith, ints))
natural (negsuc n) h k = absurd (omega (arith, ints))

-- a difference of two energies, clear of its bits
apart : (e d : ℤ) → SFits w64 e → SFits w64 d → SFits w64 (to_z w64 (of_z w64 e) -ℤ to_z w64 (of_z w64 d)) → to_z w64 (of_z w64 (to_z w64 (of_z w64 e) -ℤ to_z w64 (of_z w64 d))) ≡ e -ℤ d
apart e d f g h = omega (arith, ints)

pub overflow_cast-result : goal.overflow_cast-result
overflow_cast-result c =
    let fits = c.args.self.now.fits in
    let most : c.leg-discharging.result.energy ≤ℤ pos 500000 = omega (arith, ints, fits.generation, c.leg-discharging.ensures.within, c.from.ensures) in
    let least : negsuc 499999 ≤ℤ c.leg-charging.result.energy = omega (arith, ints, fits.least, c.leg-charging.ensures.within, c.from-2.ensures) in
    rw (to_z-of_z w64 _ (overflow_sub-result c))
    (natural _ (omega (arith, ints, c.leg-discharging.ensures.within, c.leg-charging.ensures.within, most, least)) (omega (arith, ints, c.leg-discharging.ensures.within, c.leg-charging.ensures.within, most, least)))

-- the part that is owed, clear of its bits
clear : (z : ℤ) → SFits w64 z → to_z w64 (of_z w64 (int_min (to_z w64 (of_z w64 z)) (pos 0))) ≡ int_min (pos 0) z
clear z f = omega (arith, ints, clamps)

-- payments with equal parts
abbrev payment : ℤ → ℤ → ℤ → ℤ → ℤ → ℕ → Payment
payment w e v d a b = record { discharging = record { price = w; energy = e }; charging = record { price = v; energy = d }; amount = a; basis = b }

same : (w w' e e' v v' d d' a a' : ℤ) (b b' : ℕ) → w ≡ w' → e ≡ e' → v ≡ v' → d ≡ d' → a ≡ a' → b ≡ b' → payment w e v d a b ≡ payment w' e' v' d' a' b'
same w w' e e' v v' d d' a a' b b' p q r s t u = rw (p, q, r, s, t, u)

pub returns : goal.returns
unfolding amount basis paid_on
returns c =
    let xs = slices c.args.self.now c.args.curve.now in
    let h = each c.args.self.now c.args.curve.now in
    let row = c.args.self.now.row.now in
    let fits = c.args.self.now.fits in
    let sums = c.above_and_below.ensures in
    let fits_e : SFits w64 c.leg-discharging.result.energy = record { sfits = omega (arith, ints) } in
    let fits_d : SFits w64 c.leg-charging.result.energy = record { sfits = omega (arith, ints) } in
    let generation : to_z w64 (of_z w64 c.from.result) ≡ pos row.generation = omega (arith, ints, c.from.ensures, fits.generation) in
    let drawn : to_z w64 (of_z w64 c.from-2.result) ≡ row.charging = omega (arith, ints, c.from-2.ensures, fits.least, fits.below) in
    let spp : to_z w64 (of_z w64 c.from-3.result) ≡ row.spp = omega (arith, ints, c.from-3.ensures, fits.spp) in
    let e = c.leg-discharging.ensures.energy ∙ ap (λ z. energy_of (pos 0) z c.above_and_below.result.0) generation ∙ ap (energy_of (pos 0) (pos row.generation)) sums.above ∙ energy_above row.generation xs in
    let d = c.leg-charging.ensures.energy ∙ ap (λ z. energy_of z (pos 0) c.above_and_below.result.1) drawn ∙ ap (energy_of row.charging (pos 0)) sums.below ∙ energy_below row.charging xs fits.below in
    let w = priced Above xs _ _ h sums.above c.leg-discharging.ensures.price in
    let v = priced Below xs _ _ h sums.below c.leg-charging.ensures.price in
    let is_due : c.due-owed.result ≡ due row.spp (mean_price Above xs) (discharged row.generation xs) (mean_price Below xs) (charged row.charging xs) =
    c.due-owed.ensures ∙ rw (spp, w, e, v, d) in
    let owed : c.nearest.result ≡ nearest_to (int_min (pos 0) c.due-owed.result) 1000 = cc (clear c.due-owed.result (record { sfits = c.due-owed.type_inv })) in
    let a = to_z-of_z w64 c.nearest.result (record { sfits = c.nearest.type_inv }) ∙ owed ∙ ap (λ z. nearest_to (int_min (pos 0) z) 1000) is_due in
    let b = ap nat_abs (apart c.leg-discharging.result.energy c.leg-charging.result.energy fits_e fits_d (overflow_sub-result c)) ∙ rw (e, d) in
    same _ _ _ _ _ _ _ _ _ _ _ _ w e v d a b
