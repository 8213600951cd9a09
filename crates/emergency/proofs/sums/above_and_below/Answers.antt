use Rattle.std.proofs.Common.{◌≡◌, ℕ, ◌+◌, ◌<◌, ◌≤◌, List, length, get_or, ℤ, pos, ◌≤ℤ◌, nat_abs, sym, ap, ◌∙◌, subst, arith, w32, SFits, to_z, of_z}
use borrow.Author.Differences.{ints}
use Rattle.std.specs.Iterator.Adapters.{zip_first, zip_second}
use Rattle.std.specs.Slice.Iter.{iter_rest}
use Rattle.std.proofs.lemmas.Int.{to_z-of_z}
use Rattle.std.proofs.lemmas.List.{length_push}
use Rattle.std.proofs.lemmas.Slice.Zip.{zip_turn, zip_end}
use Rattle.curves.specs.declared.points.Point.{Point}
use Rattle.curves.specs.Curves.{points_of}
use Rattle.curves.specs.Reading.{price_at}
use Rattle.quarters.specs.Quarters.{slices_of}
use Rattle.emergency.specs.declared.row.EmergencyRow.{EmergencyRow}
use Rattle.emergency.specs.declared.slices.Side.{Side}
use Rattle.emergency.specs.declared.slices.Side.TheVariants.{Above, Below}
use Rattle.emergency.specs.declared.sums.Sums.{Sums}
use Rattle.emergency.specs.Payments.{slice, sliced}
use Rattle.emergency.specs.Sums.{sums_of, one_more, Roomy}
use Rattle.emergency.specs.Weights.{Limited}
use Rattle.emergency.proofs.Limits.{cheap, slice_at, firsts, one_limited, firsts_roomy, firsts_more}
use Rattle.emergency.proofs.sums.above_and_below.Goals as goal
use Rattle.emergency.proofs.sums.above_and_below.Goals.{After-price_at}

pub loop-seconds-init : goal.loop-seconds-init
loop-seconds-init c = record { above = c.none-above.ensures Above; below = c.none-below.ensures Below }

-- a slice as the bits hold it
laid : (ps : List Point) (s t : ℕ) (b d p cap : ℤ) → s ≡ t → b ≡ d → SFits w32 p → nat_abs d ≤ 2000000 → pos 0 ≤ℤ cap → cap ≤ℤ pos 1000000 → p ≡ price_at ps (to_z w32 (of_z w32 cap)) (to_z w32 (of_z w32 b)) →
    slice s (to_z w32 (of_z w32 b)) (to_z w32 (of_z w32 p)) ≡ slice t d (price_at ps cap d)
laid ps s t b d p cap same_seconds same_base fits near free capped is =
    let base : to_z w32 (of_z w32 b) ≡ d = omega (arith, ints) in
    let top : to_z w32 (of_z w32 cap) ≡ cap = omega (arith, ints) in
    rw (same_seconds, to_z-of_z w32 p fits ∙ is, base, top)

-- the slice that a turn adds is the next one
next_slice : (c : After-price_at) → (length c.loop-seconds.yielded < length (slices_of c.args.quarter.now)) ×
    (slice c.in-Some.seconds.now (to_z w32 (of_z w32 c.in-Some.base.now)) (to_z w32 (of_z w32 c.price_at.result)) ≡ slice_at (points_of c.args.curve.now) c.args.row.now.cap (slices_of c.args.quarter.now) c.args.row.now.bases (length c.loop-seconds.yielded))
next_slice c =
    let s = c.into_iter-seconds-iterator.result in
    let n = length c.loop-seconds.yielded in
    let row = c.args.row.now in
    let fits = c.requires in
    let first : iter_rest (zip_first s) ≡ c.slices.result.now = cc in
    let second : iter_rest (zip_second s) ≡ row.bases = cc in
    let turn = zip_turn c.slices.result.now row.bases c.loop-seconds.yielded s c.loop-seconds.seconds-iterator c.next.new.self c.next.result first second c.loop-seconds.yielded_by (c.in-Some.seconds, c.in-Some.base) c.in-Some.is c.next.ensures.steps in
    let lt : n < length (slices_of c.args.quarter.now) = rw (← c.slices.ensures.value) turn.0 in
    (lt, laid (points_of c.args.curve.now) c.in-Some.seconds.now _ c.in-Some.base.now _ c.price_at.result row.cap (turn.2 0 ∙ ap (λ xs. get_or xs n 0) c.slices.ensures.value) (turn.3 (pos 0)) (record { sfits = c.price_at.type_inv }) (fits.near n lt) fits.free fits.capped c.price_at.ensures)

-- which the sums have room for
limited : (c : After-price_at) → Limited (slice c.in-Some.seconds.now (to_z w32 (of_z w32 c.in-Some.base.now)) (to_z w32 (of_z w32 c.price_at.result)))
limited c =
    subst Limited (sym (next_slice c).1)
    (one_limited (points_of c.args.curve.now) (slices_of c.args.quarter.now) c.args.row.now (cheap c.args.curve.now) (rw (← c.slices.ensures.value) c.slices.ensures.quarter.each) c.requires (length c.loop-seconds.yielded) (next_slice c).0)

room : (c : After-price_at) (side : Side) (sums : Sums) → sums ≡ sums_of side (firsts (points_of c.args.curve.now) c.args.row.now.cap (slices_of c.args.quarter.now) c.args.row.now.bases (length c.loop-seconds.yielded)) → Roomy sums
room c side sums is =
    rw is
    (firsts_roomy (points_of c.args.curve.now) (slices_of c.args.quarter.now) c.args.row.now (cheap c.args.curve.now) (rw (← c.slices.ensures.value) c.slices.ensures.quarter.each) c.requires side (length c.loop-seconds.yielded) (next_slice c).0
    (rw (← c.slices.ensures.value) c.slices.ensures.quarter.few))

pub add-requires : goal.add-requires
add-requires c = let p = (goal.at.add-requires c).After-price_at in record { limited = limited p; room = room p Above _ c.loop-seconds.invariant.above }

pub add-requires-in-loop-seconds : goal.add-requires-in-loop-seconds
add-requires-in-loop-seconds c = let p = (goal.at.add-requires-in-loop-seconds c).After-price_at in record { limited = limited p; room = room p Below _ c.loop-seconds.invariant.below }

-- the sums with it
stepped : (c : After-price_at) (side : Side) (sums more : Sums) (m : ℕ) → sums ≡ sums_of side (firsts (points_of c.args.curve.now) c.args.row.now.cap (slices_of c.args.quarter.now) c.args.row.now.bases (length c.loop-seconds.yielded)) →
    more ≡ one_more side (slice c.in-Some.seconds.now (to_z w32 (of_z w32 c.in-Some.base.now)) (to_z w32 (of_z w32 c.price_at.result))) sums → m ≡ length c.loop-seconds.yielded + 1 →
    more ≡ sums_of side (firsts (points_of c.args.curve.now) c.args.row.now.cap (slices_of c.args.quarter.now) c.args.row.now.bases m)
stepped c side sums more m is step longer =
    let ps = points_of c.args.curve.now in
    let seconds = slices_of c.args.quarter.now in
    let row = c.args.row.now in
    let n = length c.loop-seconds.yielded in
    step
    ∙ ap (λ x. one_more side x sums) (next_slice c).1
    ∙ ap (one_more side (slice_at ps row.cap seconds row.bases n)) is
    ∙ firsts_more ps row.cap seconds row.bases side n
    ∙ ap (λ k. sums_of side (firsts ps row.cap seconds row.bases k)) (sym longer)

pub loop-seconds-preserved : goal.loop-seconds-preserved
loop-seconds-preserved c =
    let p = (goal.at.loop-seconds-preserved c).After-price_at in
    record {
      above = stepped p Above _ _ _ c.loop-seconds.invariant.above c.add.ensures (length_push c.loop-seconds.yielded _);
      below = stepped p Below _ _ _ c.loop-seconds.invariant.below c.add-in-loop-seconds.ensures (length_push c.loop-seconds.yielded _);
    }

-- at the end they are over all of them
filled : (ps : List Point) (seconds : List ℕ) (row : EmergencyRow) (n : ℕ) → n ≡ length seconds → firsts ps row.cap seconds row.bases n ≡ sliced ps row.cap seconds row.bases
unfolding sliced
filled ps seconds row n all = rw all

pub returns : goal.returns
returns c =
    let s = c.into_iter-seconds-iterator.result in
    let row = c.args.row.now in
    let first : iter_rest (zip_first s) ≡ c.slices.result.now = cc in
    let second : iter_rest (zip_second s) ≡ row.bases = cc in
    let end = zip_end c.slices.result.now row.bases c.loop-seconds.yielded s c.loop-seconds.seconds-iterator c.next.new.self c.next.result first second c.loop-seconds.yielded_by c.in-None.is c.next.ensures.steps in
    let all : length c.loop-seconds.yielded ≡ length (slices_of c.args.quarter.now) = rw (← c.slices.ensures.value) (omega (arith, end, c.slices.ensures.quarter.few)) in
    let whole = filled (points_of c.args.curve.now) (slices_of c.args.quarter.now) row _ all in
    record { above = c.loop-seconds.invariant.above ∙ ap (sums_of Above) whole; below = c.loop-seconds.invariant.below ∙ ap (sums_of Below) whole }
