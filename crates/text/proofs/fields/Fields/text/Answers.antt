use Rattle.std.proofs.Common.{ap, ◌∙◌, rules}
use Rattle.text.specs.Text.{past}
use Rattle.text.specs.Fields.{in_field}
use Rattle.text.proofs.Cursor.{passes_on}
use Rattle.text.proofs.fields.Fields.text.Goals as goal

pub returns-clause-passes : goal.returns-clause-passes
returns-clause-passes c = passes_on c.args.self.now.rest.now c.first_text.result.0.now _ (search rules) (c.first_text.ensures.rest ∙ ap (past in_field) c.in_ok-strip_prefix.ensures.cases.1)
