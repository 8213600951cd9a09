use Rattle.std.proofs.Common.{rules}
use Rattle.day.proofs.Made.{made}
use Rattle.day.specs.Texts.{point_at}
use Rattle.day.proofs.reading.points_of.Goals as goal

pub returns : goal.returns
returns c = made _ _ (point_at c.args.numbers.now) (λ i y q called. search rules) c.from_fn.result _ c.from_fn.ensures.items
