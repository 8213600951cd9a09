use Rattle.std.proofs.Common.{◌≡◌, rules}
use Rattle.losses.specs.Lines.{loss_basis}
use Rattle.losses.specs.Bounds.{loss_based}
use Rattle.losses.proofs.reader.LossReaderBasisReaderLossRow.rest.Goals as goal

pub returns-clause-based : goal.returns-clause-based
returns-clause-based c =
    let value : c.map_or.result ≡ loss_basis c.args.row.now = search rules in
    rw value (loss_based c.args._n c.args.row.now)
