use Rattle.std.proofs.Common.{◌≡◌, ℕ, ◌+◌, ◌-◌, ◌*◌, ◌/◌, ◌<◌, ◌≤◌, length, get_or, ℤ, pos, sym, ap, ◌∙◌, mul-le-mul, arith, w64, SFits, to_z, of_z}
use borrow.Author.Differences.{ints}
use Rattle.std.proofs.lemmas.List.Sums.{sum_by_more}
use Rattle.std.proofs.lemmas.Int.{to_z-of_z}
use Rattle.std.proofs.lemmas.List.Edits.{fill_by_more}
use Rattle.numbers.specs.Signs.{signed_by}
use Rattle.sharing.specs.Running.{up_to}
use Rattle.sharing.proofs.Limits.{asked_sum, asked_take}
use Rattle.sharing.specs.RunningLaws.{up_to_zero, up_to_rises, up_to_le, up_to_step}
use Rattle.sharing.proofs.Turns.{running_from}
use Rattle.sharing.proofs.running.RunningSharingRule.share.Goals as goal

pub loop-place-init : goal.loop-place-init
loop-place-init c =
    (omega arith, sym (up_to_zero c.unsigned_abs-magnitude.result c.args.loads.now c.requires.asked.loaded), λ k h. absurd (omega arith))

pub loop-place-preserved : goal.loop-place-preserved
loop-place-preserved c =
    let m : ℕ = c.unsigned_abs-magnitude.result in
    let ls = c.args.loads.now in
    let i : ℕ = c.loop-place.place in
    let next = ap (λ x. m * (c.loop-place.before + x) / c.total_load-all.result) c.from-before.ensures ∙ up_to_step m ls c.requires.asked.loaded i c.loop-place.before c.total_load-all.result c.loop-place-test.true c.loop-place.invariant.0 c.total_load-all.ensures in
    let z : ℤ = to_z w64 (of_z w64 c.args.total) in
    let f : ℕ → ℤ = λ k. signed_by z (up_to m ls (k + 1) - up_to m ls k) in
    let fits : SFits w64 c.with_sign.result = record { sfits = c.with_sign.type_inv } in
    let e : to_z w64 (of_z w64 c.with_sign.result) ≡ f i = to_z-of_z w64 c.with_sign.result fits ∙ c.with_sign.ensures ∙ (λ x. signed_by z (next x - c.loop-place.invariant.1 x)) in
    let lt : i < length c.loop-place.shares = omega arith in (
      omega (arith, sum_by_more (λ x. x) ls i 0 c.loop-place-test.true),
      next,
      rw e (fill_by_more f c.loop-place.shares i (pos 0) lt c.loop-place.invariant.2),
    )

pub overflow_mul-up_to : goal.overflow_mul-up_to
overflow_mul-up_to c =
    let m : c.unsigned_abs-magnitude.result ≤ 5000000000 = omega (arith, ints, c.requires.asked.range) in
    let b : c.loop-place.before + get_or c.args.loads.now c.loop-place.place 0 ≤ 1280000000 =
    omega (arith, sum_by_more (λ x. x) c.args.loads.now c.loop-place.place 0 c.loop-place-test.true, asked_take c.args.total c.args.loads.now (c.loop-place.place + 1) c.requires.asked, asked_sum c.args.total c.args.loads.now c.requires.asked) in
    rw c.from-before.ensures (omega (arith, mul-le-mul m b))

pub overflow_sub-up_to : goal.overflow_sub-up_to
overflow_sub-up_to c =
    let m : ℕ = c.unsigned_abs-magnitude.result in
    let ls = c.args.loads.now in
    rw (c.from-before.ensures, up_to_step m ls c.requires.asked.loaded c.loop-place.place c.loop-place.before c.total_load-all.result c.loop-place-test.true c.loop-place.invariant.0 c.total_load-all.ensures)
    (omega (arith, up_to_rises m ls c.requires.asked.loaded c.loop-place.place 1))

pub with_sign-requires : goal.with_sign-requires
with_sign-requires c =
    let m : ℕ = c.unsigned_abs-magnitude.result in
    let ls = c.args.loads.now in
    rw (c.from-before.ensures, up_to_step m ls c.requires.asked.loaded c.loop-place.place c.loop-place.before c.total_load-all.result c.loop-place-test.true c.loop-place.invariant.0 c.total_load-all.ensures)
    (omega (arith, up_to_le m ls c.requires.asked.loaded (c.loop-place.place + 1)))

pub returns : goal.returns
returns c =
    running_from c.args.total (to_z w64 (of_z w64 c.args.total)) c.unsigned_abs-magnitude.result c.args.loads.now c.loop-place.shares
    (to_z-of_z w64 c.args.total c.ranges.total) c.unsigned_abs-magnitude.ensures.value (omega arith)
    (λ k h. c.loop-place.invariant.2 k (omega arith))
