use Rattle.std.proofs.Common.{rules}
use Rattle.std.proofs.iter.runs.Made.{chains}
use Rattle.curves.proofs.curve.reading.first_above.Goals as goal

pub returns : goal.returns
returns c = search (rules, chains)
