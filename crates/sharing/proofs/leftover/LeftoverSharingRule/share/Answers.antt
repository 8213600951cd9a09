use Rattle.std.proofs.Common.{◌≡◌, ℕ, ◌<◌, length, ℤ, pos, ap, ◌∙◌, arith, w64, SFits, to_z, of_z}
use Rattle.std.proofs.lemmas.Int.{to_z-of_z}
use Rattle.std.proofs.lemmas.List.Edits.{fill_by_more}
use Rattle.numbers.specs.Signs.{signed_by}
use Rattle.sharing.specs.Leftover.{part}
use Rattle.sharing.proofs.Turns.{turn_part, turn_left, leftover_from}
use Rattle.sharing.proofs.leftover.LeftoverSharingRule.share.Goals as goal

pub loop-place-preserved : goal.loop-place-preserved
loop-place-preserved c =
    let m : ℕ = c.unsigned_abs-magnitude.result in
    let ls = c.args.loads.now in
    let i : ℕ = c.loop-place.place in
    let p = turn_part m ls i c.from.result c.total_load-all.result c.loop-place.left c.cent_for-cent.result c.loop-place-test.true c.from.ensures c.total_load-all.ensures c.loop-place.invariant.0 c.cent_for-cent.ensures in
    let l = turn_left m ls i c.from.result c.total_load-all.result c.loop-place.left c.cent_for-cent.result c.loop-place-test.true c.from.ensures c.total_load-all.ensures c.loop-place.invariant.0 c.cent_for-cent.ensures in
    let f : ℕ → ℤ = λ k. signed_by (to_z w64 (of_z w64 c.args.total)) (part m ls k) in
    let fits : SFits w64 c.with_sign.result = record { sfits = c.with_sign.type_inv } in
    let e : to_z w64 (of_z w64 c.with_sign.result) ≡ f i = to_z-of_z w64 c.with_sign.result fits ∙ c.with_sign.ensures ∙ ap (signed_by (to_z w64 (of_z w64 c.args.total))) p in
    let lt : i < length c.loop-place.shares = omega arith in
    (l, rw e (fill_by_more f c.loop-place.shares i (pos 0) lt c.loop-place.invariant.1))

pub returns : goal.returns
returns c =
    leftover_from c.args.total (to_z w64 (of_z w64 c.args.total)) c.unsigned_abs-magnitude.result c.args.loads.now c.loop-place.shares
    (to_z-of_z w64 c.args.total c.ranges.total) c.unsigned_abs-magnitude.ensures.value (omega arith)
    (λ k h. c.loop-place.invariant.1 k (omega arith))
