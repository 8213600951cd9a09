use Rattle.std.proofs.Common.{sym, ap, ◌∙◌, rules}
use Rattle.text.specs.Text.{front, past, trimmed, and_then}
use Rattle.text.specs.Numbers.{number_in}
use Rattle.text.specs.Fields.{in_field, next_text}
use Rattle.text.proofs.Cursor.{passes_on}
use Rattle.text.proofs.Plain.{led_by}
use Rattle.text.proofs.fields.Fields.plain.Goals as goal

pub returns-clause-value : goal.returns-clause-value
returns-clause-value g c =
    let comma = c.in_ok-strip_prefix.ensures.cases in
    let number = number_in g.T.Number.kind in
    ap (λ s. and_then (next_text s) number) (led_by 44 c.args.self.now.rest.now comma.0) ∙ ap (λ s. number (trimmed (front in_field s))) (sym comma.1) ∙ c.in_ok-number.ensures.value

pub returns-clause-passes : goal.returns-clause-passes
returns-clause-passes g c = passes_on c.args.self.now.rest.now (trimmed (front in_field c.in_ok-strip_prefix.field-0.now)) c.in_ok-number.rest.now (search rules) (c.in_ok-number.ensures.rest ∙ ap (past in_field) c.in_ok-strip_prefix.ensures.cases.1)
