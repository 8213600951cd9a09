use Rattle.std.proofs.Common.{rules, ◌≡◌, Err}
use Rattle.day.proofs.Wrong.{takes_told}
use Rattle.losses.specs.declared.row.Kind.{Kind}
use Rattle.day.specs.declared.reading.LossEnd.{LossEnd}
use Rattle.day.proofs.reading.RecordReader.loss_end.Goals as goal

pub returns-in_err-kind-clause-fields : goal.returns-in_err-kind-clause-fields
returns-in_err-kind-clause-fields c =
    let wrong = c.in_err-kind.field-0.0 in
    let gave : c.from_residual.result ≡ Err wrong = search rules in
    rw gave (takes_told Kind LossEnd 6 9 c.args.costing _ c.args.self.now c.kind.new.self c.kind.new.self wrong c.in_err-kind.ensures.fields)
