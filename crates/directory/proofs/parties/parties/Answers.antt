use Rattle.directory.proofs.Codes.{in_byte_order}
use Rattle.directory.proofs.parties.parties.Goals as goal

pub returns-clause-order : goal.returns-clause-order
returns-clause-order c = in_byte_order
