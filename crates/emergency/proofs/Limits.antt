-- What the field checks leave, and so the limits of every slice.
use Rattle.std.proofs.Common.{◌≡◌, ℕ, ◌<◌, Bool, true, false, cond, ◌||◌, ltb, List, Option, Some, None, length, map, get_or, take, ℤ, pos, negsuc, sym, refl, ap, ◌∙◌, ◌+◌, ◌≤◌, subst, zero-add, arith}
use borrow.Author.Differences.{ints}
use Rattle.std.specs.List.{AllByRecursion, All, range_with_len}
use Rattle.std.proofs.ByRecursion.{All-from_get_or}
use Rattle.std.proofs.lemmas.List.FromFn.{length-map-range_with_len, get_or-map-range_with_len, map-range_with_len_more}
use Rattle.std.proofs.lemmas.List.Elements.{recursion_from_All}
use Rattle.std.proofs.lemmas.Bool.{or_parts, ltb-false}
use Rattle.numbers.specs.Ranges.{outside, strays}
use Rattle.numbers.proofs.Ranges.{inside, all_small}
use Rattle.curves.specs.declared.curve.Curve.{Curve}
use Rattle.curves.specs.declared.points.Point.{Point}
use Rattle.curves.specs.Curves.{points_of}
use Rattle.curves.specs.Shape.{point}
use Rattle.curves.specs.Reading.{price_at}
use Rattle.curves.proofs.Bounds.{Cheap, price_cheap}
use Rattle.quarters.specs.Slices.{Lasting}
use Rattle.emergency.specs.declared.row.EmergencyRow.{EmergencyRow}
use Rattle.emergency.specs.declared.row.Field.{Field}
use Rattle.emergency.specs.declared.row.Field.TheVariants.{Resource, SettlementPointPrice, Generation, Charging, BasePoint, Hour, Cap}
use Rattle.emergency.specs.declared.slices.Slice.{Slice}
use Rattle.emergency.specs.declared.slices.Side.{Side}
use Rattle.emergency.specs.Fields.{bad_field, Fitting}
use Rattle.emergency.specs.Payments.{slice, sliced}
use Rattle.emergency.specs.Sums.{sums_of, one_more, Roomy}
use Rattle.emergency.specs.Weights.{Limited}
use Rattle.emergency.proofs.Terms.{roomy, sums_more}

-- a check that was passed
passed : (b : Bool) (field : Field) (rest : Option Field) → cond b (Some field) rest ≡ None → (b ≡ false) × (rest ≡ None)
passed true field rest e = cc
passed false field rest e = (refl, e)

pub fitting : (m : ℕ) (row : EmergencyRow) → bad_field m row ≡ None → Fitting m row
unfolding bad_field
fitting m row e =
    let p1 = passed (ltb row.resource 1 || ltb 9999 row.resource) Resource _ e in
    let p2 = passed (outside (negsuc 99999) (pos 1000000) row.spp) SettlementPointPrice _ p1.1 in
    let p3 = passed (ltb 500000 row.generation) Generation _ p2.1 in
    let p4 = passed (outside (negsuc 499999) (pos 0) row.charging) Charging _ p3.1 in
    let p5 = passed (strays (negsuc 1999999) (pos 2000000) (take m row.bases)) BasePoint _ p4.1 in
    let p6 = passed (ltb row.hour 1 || ltb 25 row.hour) Hour _ p5.1 in
    let p7 = passed (outside (pos 0) (pos 1000000) row.cap) Cap None p6.1 in
    let r = or_parts (ltb row.resource 1) (ltb 9999 row.resource) p1.0 in
    let s = inside (negsuc 99999) (pos 1000000) row.spp p2.0 in
    let c = inside (negsuc 499999) (pos 0) row.charging p4.0 in
    let k = inside (pos 0) (pos 1000000) row.cap p7.0 in
    record {
      low = ltb-false row.resource 1 r.0;
      high = ltb-false 9999 row.resource r.1;
      spp = omega (arith, ints, s);
      generation = ltb-false 500000 row.generation p3.0;
      least = c.0;
      below = c.1;
      near = all_small (negsuc 1999999) (pos 2000000) 2000000 m row.bases (omega (arith, ints)) (omega (arith, ints)) p5.0;
      free = k.0;
      capped = k.1;
    }

pub cheap : (curve : Curve) → AllByRecursion Cheap (points_of curve)
cheap curve = All-from_get_or Cheap (points_of curve) (point (pos 0) (pos 0)) (λ k lt. let i = curve.inside k lt in omega (arith, ints))

-- the slice after the first k, and the first n slices
abbrev pub slice_at : List Point → ℤ → List ℕ → List ℤ → ℕ → Slice
slice_at ps cap seconds bases k = slice (get_or seconds k 0) (get_or bases k (pos 0)) (price_at ps cap (get_or bases k (pos 0)))

abbrev pub firsts : List Point → ℤ → List ℕ → List ℤ → ℕ → List Slice
firsts ps cap seconds bases n = map (slice_at ps cap seconds bases) (range_with_len 0 n)

module _ (ps : List Point) (seconds : List ℕ) (row : EmergencyRow) (cheap : AllByRecursion Cheap ps) (lasting : Lasting seconds) (fit : Fitting (length seconds) row) where
  pub one_limited : (k : ℕ) → k < length seconds → Limited (slice_at ps row.cap seconds row.bases k)
  one_limited k lt = ((lasting k lt).0, (lasting k lt).1, fit.near k lt, price_cheap ps row.cap (get_or row.bases k (pos 0)) cheap fit.free fit.capped)

  firsts_limited : (n : ℕ) → n ≤ length seconds → All Limited (firsts ps row.cap seconds row.bases n)
  firsts_limited n most k d h =
      let f : ℕ → Slice = slice_at ps row.cap seconds row.bases in
      let lt : k < n = omega (arith, length-map-range_with_len f 0 n) in
      subst Limited (sym (get_or-map-range_with_len f 0 n k k d lt (zero-add k))) (one_limited k (omega arith))

  pub sliced_limited : All Limited (sliced ps row.cap seconds row.bases)
  unfolding sliced
  sliced_limited = firsts_limited (length seconds) (omega arith)

  -- there is room for one more
  pub firsts_roomy : (side : Side) (n : ℕ) → n < length seconds → length seconds ≤ 15 → Roomy (sums_of side (firsts ps row.cap seconds row.bases n))
  firsts_roomy side n lt few =
      roomy side (firsts ps row.cap seconds row.bases n) (recursion_from_All Limited _ (firsts_limited n (omega arith))) (omega (arith, length-map-range_with_len (slice_at ps row.cap seconds row.bases) 0 n))

-- and the sums with it
pub firsts_more : (ps : List Point) (cap : ℤ) (seconds : List ℕ) (bases : List ℤ) (side : Side) (n : ℕ) →
    one_more side (slice_at ps cap seconds bases n) (sums_of side (firsts ps cap seconds bases n)) ≡ sums_of side (firsts ps cap seconds bases (n + 1))
firsts_more ps cap seconds bases side n = sym (ap (sums_of side) (map-range_with_len_more (slice_at ps cap seconds bases) 0 n n (zero-add n)) ∙ sums_more side (firsts ps cap seconds bases n) _)
