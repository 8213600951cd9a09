use Rattle.std.proofs.Common.{refl, ap, ◌∙◌, take, drop}
use Rattle.std.proofs.lemmas.List.{take_rest}
use Rattle.memchr.specs.Find.{is_byte}
use Rattle.text.specs.Text.{until, trimmed}
use Rattle.text.proofs.Fronts.{front_first, past_first}
use Rattle.text.proofs.fields.first_text.Goals as goal

pub returns-clause-value : goal.returns-clause-value
returns-clause-value g c =
    let s = c.args.text.now in
    let end = c.bytes_before-end.ensures.value in
    c.trimmed.ensures ∙ ap trimmed (ap (λ k. take k s) end ∙ front_first (until g.row.END) (is_byte g.row.END) (λ _. refl) s)

pub returns-clause-rest : goal.returns-clause-rest
returns-clause-rest g c =
    let s = c.args.text.now in
    let end = c.bytes_before-end.ensures.value in
    take_rest s _ ∙ ap (λ k. drop k s) end ∙ past_first (until g.row.END) (is_byte g.row.END) (λ _. refl) s
