use Rattle.std.proofs.Common.{Err, IfOk, subst, w64, to_z, of_z}
use Rattle.std.proofs.lemmas.Int.{to_z-of_z}
use Rattle.law.specs.Settlements as words
use Rattle.book.specs.Books.{model, Opens}
use Rattle.desk.specs.Days.{DayDone}
use Rattle.desk.proofs.Audits.{some_day}
use Rattle.desk.proofs.day_over_arrays.Goals as goal

pub returns-clause-done : goal.returns-clause-done
returns-clause-done c =
    let done = some_day c.args.loads.now c.args.rows.now (to_z w64 (of_z w64 c.args.adjustment)) (model c.day.new.book) c.day.result (λ e. Opens 3 4 c.over-book.result (Err e) c.day.new.book) c.day.ensures.done in
    subst (λ figure. IfOk c.day.result (λ v. (after : words.Book) × DayDone c.args.loads.now c.args.rows.now figure after v)) (to_z-of_z w64 c.args.adjustment c.ranges.adjustment) done
