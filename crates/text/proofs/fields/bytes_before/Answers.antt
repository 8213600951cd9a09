use Rattle.std.proofs.Common.{sym, ◌∙◌}
use Rattle.text.proofs.Fronts.{near_byte, first_byte}
use Rattle.text.proofs.fields.bytes_before.Goals as goal

pub returns-in-Some-clause-value : goal.returns-in-Some-clause-value
returns-in-Some-clause-value c = near_byte c.args.end c.args.text.now _ c.in-Some.place (sym c.place_of.ensures ∙ c.in-Some.is)

pub returns-in-None-clause-value : goal.returns-in-None-clause-value
returns-in-None-clause-value c = c.unwrap_or.ensures ∙ sym (first_byte c.args.end c.args.text.now _ c.memchr.ensures)
