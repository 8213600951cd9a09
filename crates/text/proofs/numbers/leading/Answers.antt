use Rattle.std.proofs.Common.{rules}
use Rattle.text.proofs.Digits.{read_to_end}
use Rattle.text.proofs.numbers.leading.Goals as goal
use Rattle.text.proofs.numbers.leading.Goals.{then-rest-lt1, in-len1-up+else-is_ascii_digit}

pub returns : goal.returns
returns c = elim c.if-rest-lt1.branch [
  | then-rest-lt1 w ↦ read_to_end _ _ _ c.loop-rest.invariant (λ some. search rules) (search rules)
  | in-len1-up+else-is_ascii_digit w ↦ read_to_end _ _ _ c.loop-rest.invariant (λ some. search rules) (search rules)
]
