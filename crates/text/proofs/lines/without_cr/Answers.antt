use Rattle.std.proofs.Common.{rules}
use Rattle.text.proofs.Ends.{without_less, without_same}
use Rattle.text.proofs.lines.without_cr.Goals as goal

pub returns-in-13 : goal.returns-in-13
returns-in-13 c = without_less c.args.line.now (search rules) (search rules)

pub returns-in_default-2 : goal.returns-in_default-2
returns-in_default-2 c = without_same c.args.line.now (λ h. search rules)
