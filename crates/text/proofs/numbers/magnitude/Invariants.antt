use Rattle.text.proofs.Digits.{Read}
use Rattle.text.proofs.numbers.magnitude.Given as goal

abbrev pub invariant-loop-digit : goal.invariant-loop-digit
invariant-loop-digit l = Read l.text l.digit-index l.value
