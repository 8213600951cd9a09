use Rattle.std.proofs.Common.{sym, ◌∙◌}
use Rattle.std.proofs.lemmas.List.FromFn.{length-map-range_with_len}
use Rattle.outside.specs.Standby.{fee_line}
use Rattle.outside.proofs.standby.StandbyLineSource.count.Goals as goal

pub returns : goal.returns
returns c = c.from.ensures ∙ sym (length-map-range_with_len (fee_line c.args.self.now) 1 c.args.self.now.count)
