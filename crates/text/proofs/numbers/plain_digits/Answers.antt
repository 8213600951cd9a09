use Rattle.text.proofs.Plain.{padded}
use Rattle.text.proofs.numbers.plain_digits.Goals as goal

pub returns : goal.returns
returns g c = padded g.row.END c.requires.ends c.requires.solid _ _ _ _ c.in_ok-value.ensures c.in_ok-end_behind_blanks.ensures.0 c.in_ok-end_behind_blanks.ensures.1
