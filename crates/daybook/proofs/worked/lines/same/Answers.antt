use Rattle.std.proofs.lemmas.Slice.Eq.{slice_eq-Decides}
use Rattle.daybook.proofs.SameRows.{row_test}
use Rattle.daybook.proofs.worked.lines.same.Goals as goal

pub returns : goal.returns
returns c = slice_eq-Decides row_test c.args.rows.now c.args.others.now c.eq.result c.eq.ensures
