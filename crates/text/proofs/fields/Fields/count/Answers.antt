use Rattle.std.proofs.Common.{◌∙◌, sym}
use Rattle.text.proofs.Cursor.{left_count}
use Rattle.text.proofs.fields.Fields.count.Goals as goal

pub returns-else-is_done : goal.returns-else-is_done
returns-else-is_done c = c.commas.ensures ∙ left_count c.args.self.now.rest.now (sym c.is_done.ensures ∙ c.if-is_done.false)
