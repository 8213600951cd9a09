use Rattle.losses.specs.Bounds.{fitting}
use Rattle.losses.proofs.row.LossRow.loss.Goals as goal

pub work_out-requires : goal.work_out-requires
work_out-requires c = fitting c.args.self.now c.in_ok-check_fields.ensures
