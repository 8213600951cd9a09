use Rattle.std.proofs.Common.{length, ap, rules, arith}
use Rattle.book.specs.Books.{FitsIn}
use Rattle.desk.proofs.Lent.{same_tables, lent_met}
use Rattle.desk.proofs.lending.settle_once.Goals as goal

pub returns-clause-met : goal.returns-clause-met
returns-clause-met g c enough_slots enough_entries =
    let before = c.over-book.result in
    let many_slots = ap length c.over-book.ensures.slots.0 in
    let many_entries = ap length c.over-book.ensures.entries.0 in
    let fits : FitsIn 2 1 before = ((omega arith, omega arith), (omega arith, omega arith), omega arith, omega arith) in
    let tables = same_tables 2 1 before c.open.new.self c.open.result c.open.ensures in
    lent_met before c.open.new.self c.settle.new.self _ c.open.result _ _ _ fits c.open.ensures c.settle.ensures.moves.step (search rules) (search rules)
