use Rattle.std.proofs.Common.{◌≡◌, length}
use Rattle.text.specs.Text.{blank, past}
use Rattle.text.proofs.blanks.after_blanks.Given as goal

abbrev pub invariant-loop-text : goal.invariant-loop-text
invariant-loop-text l = past blank l.text ≡ past blank l.fn.text

abbrev pub decreases-loop-text : goal.decreases-loop-text
decreases-loop-text l = length l.text
