use Rattle.std.proofs.Common.{◌≡◌, length, sym, subst, append_assoc, arith}
use Rattle.std.proofs.lemmas.Result.{err_from_is_err_and}
use Rattle.bounded.specs.Items.{items_of}
use Rattle.curves.specs.Shape.{Shaped}
use Rattle.curves.specs.Completion.{completed}
use Rattle.curves.proofs.Acceptance.{refused_not}
use Rattle.curves.proofs.Soundness.{sound}
use Rattle.curves.proofs.Completion.{completed_shaped}
use Rattle.curves.proofs.points.SubmittedCurve.complete.Goals as goal
use Rattle.curves.proofs.points.SubmittedCurve.complete.Goals.{After-put-3}

whole : (c : After-put-3) → items_of c.put-3.new.points ≡ completed c.args.self.now
unfolding completed
whole c = let e = c.in_ok-sound.ensures.1 in rw (c.put-3.ensures, c.extend_from_slice.ensures, c.put-2.ensures, c.put.ensures, c.new-points.ensures, c.listed.ensures.value, c.low_end.ensures, c.step_up.ensures, c.high_end.ensures, e) (simp append_assoc)

pub invariant_of-result : goal.invariant_of-result
invariant_of-result c =
    let row = c.args.self.now in
    let passed = sound row c.in_ok-sound.ensures.0 in
    let count : length c.listed.result.now ≡ row.count = omega (arith, passed.count) in
    let shape = subst Shaped (sym (whole c)) (completed_shaped row passed (rw c.listed.ensures.value at count)) in
    record { some = shape.some; rising = shape.rising; inside = shape.inside }

pub returns-clause-answer : goal.returns-clause-answer
returns-clause-answer c = (c.in_ok-sound.ensures.0, whole (goal.at.returns-clause-answer c).After-put-3)

pub returns-in_err-sound-clause-test : goal.returns-in_err-sound-clause-test
returns-in_err-sound-clause-test c =
    let p = err_from_is_err_and c.from_residual.result c.from_residual.ensures.1 in
    rw p.1 (sym (refused_not c.args.self.now _ _ c.in_err-sound.ensures))
