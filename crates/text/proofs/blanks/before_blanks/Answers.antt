use Rattle.std.proofs.Common.{rules, ◌∙◌}
use Rattle.text.proofs.Fronts.{trim_end_less, trim_end_same}
use Rattle.text.proofs.blanks.before_blanks.Goals as goal

pub loop-text-preserved : goal.loop-text-preserved
loop-text-preserved c = trim_end_less c.loop-text.text.now (search rules) (search rules) ∙ c.loop-text.invariant

pub returns-in_default-2 : goal.returns-in_default-2
returns-in_default-2 c = trim_end_same c.loop-text.text.now (λ h. search rules) ∙ c.loop-text.invariant
