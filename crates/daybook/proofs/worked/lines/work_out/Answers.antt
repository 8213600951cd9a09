use Rattle.std.proofs.Common.{rules, ◌≡◌, ◌+◌, ◌++◌, ◌∷◌, [], sym, subst, take}
use Rattle.quarters.specs.Quarters.{slices_of}
use Rattle.daybook.specs.Worked.{WorkedOut}
use Rattle.daybook.proofs.WorkedOut.{one_more}
use Rattle.daybook.proofs.worked.lines.work_out.Goals as goal

pub loop-place-preserved : goal.loop-place-preserved
loop-place-preserved c =
    let seconds = slices_of c.args.reader.now.quarter in
    let curves = c.args.reader.now.curves.records.now in
    let items : c.push.new.self.items ≡ c.loop-place.worked.items ++ c.worked.result ∷ [] = search rules in
    subst (WorkedOut seconds curves (take (c.loop-place.place + 1) c.args.rows.now)) (sym items)
    (one_more seconds curves c.args.rows.now c.loop-place.place _ c.loop-place.worked.items c.worked.result (search rules) c.loop-place.invariant c.worked.ensures.line c.worked.ensures.basis)
