use Rattle.std.proofs.Common.{take}
use Rattle.daybook.specs.Worked.{WorkedOut}
use Rattle.quarters.specs.Quarters.{slices_of}
use Rattle.daybook.proofs.worked.lines.work_out.Given as goal

abbrev pub invariant-loop-place : goal.invariant-loop-place
invariant-loop-place l = WorkedOut (slices_of l.reader.quarter) l.reader.curves.records.now (take l.place l.rows) l.worked.items
