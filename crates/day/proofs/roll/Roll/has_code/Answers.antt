use Rattle.std.proofs.Common.{arith}
use Rattle.std.proofs.lemmas.Grind.{common_steps}
use Rattle.std.proofs.lemmas.Option.{gets}
use Rattle.std.proofs.lemmas.Slice.Eq.{bytes_eq-Decides}
use Rattle.day.proofs.roll.Roll.has_code.Goals as goal

pub returns : goal.returns
returns c = grind (arith, common_steps, gets, bytes_eq-Decides)
