use Rattle.std.proofs.Common.{not, sym, ap, ◌∙◌, rules, arith}
use Rattle.text.proofs.Cursor.{left_some, left_none}
use Rattle.text.proofs.fields.Fields.is_done.Goals as goal
use Rattle.text.proofs.fields.Fields.is_done.Goals.{in-44, in_default, in_default-2}

pub returns : goal.returns
returns c = elim c.if-matches.branch [
  | in-44 w ↦ ap not w.matches-is ∙ sym (left_some c.args.self.now.rest.now w.in-44.len_at_least (search rules))
  | in_default w ↦ ap not w.matches-is ∙ sym (left_none c.args.self.now.rest.now (λ some. absurd (omega arith)))
  | in_default-2 w ↦ ap not w.matches-is ∙ sym (left_none c.args.self.now.rest.now (λ some. search rules))
]
