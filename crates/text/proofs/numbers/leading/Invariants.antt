use Rattle.std.proofs.Common.{length}
use Rattle.text.proofs.Digits.{ReadTo}
use Rattle.text.proofs.numbers.leading.Given as goal

abbrev pub invariant-loop-rest : goal.invariant-loop-rest
invariant-loop-rest l = ReadTo l.fn.text l.value l.rest

abbrev pub decreases-loop-rest : goal.decreases-loop-rest
decreases-loop-rest l = length l.rest
