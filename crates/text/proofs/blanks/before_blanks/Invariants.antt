use Rattle.std.proofs.Common.{◌≡◌, length}
use Rattle.text.specs.Text.{trim_end}
use Rattle.text.proofs.blanks.before_blanks.Given as goal

abbrev pub invariant-loop-text : goal.invariant-loop-text
invariant-loop-text l = trim_end l.text ≡ trim_end l.fn.text

abbrev pub decreases-loop-text : goal.decreases-loop-text
decreases-loop-text l = length l.text
