use Rattle.std.proofs.Common.{rules, ◌<◌, length}
use Rattle.daybook.proofs.Verdicts.{checked_curves}
use Rattle.daybook.proofs.enrolled.Enrolled.curve_directory.Goals as goal

pub returns : goal.returns
returns c =
    let some : 0 < length c.args.self.now.curves.items = search rules in
    checked_curves (λ d. d.records.now) c.args.self.now.curves.items c.submitted_curves.result some (rw c.as_slice.ensures.value at c.submitted_curves.ensures.answer)
