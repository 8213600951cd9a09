use Rattle.std.proofs.Common.{rules, tests}
use Rattle.text.proofs.Ends.{lines_cut}
use Rattle.text.proofs.lines.whole_lines.Goals as goal

pub returns-in-Some-clause-lines : goal.returns-in-Some-clause-lines
returns-in-Some-clause-lines c = lines_cut c.args.text.now c.in-Some.last (search (rules, tests)) (search (rules, tests))
