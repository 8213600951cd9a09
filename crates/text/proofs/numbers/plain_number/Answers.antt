use Rattle.std.proofs.Common.{rules, ◌∙◌, drop, ap, subst}
use Rattle.text.specs.Text.{front, until, trimmed}
use Rattle.text.specs.Numbers.{number_in, Padded}
use Rattle.text.proofs.Plain.{behind_blanks, plain_above, plain_below, past_minus, led_by}
use Rattle.text.proofs.numbers.plain_number.Goals as goal

pub returns-in_ok-from_parts-in-Some-clause-value : goal.returns-in_ok-from_parts-in-Some-clause-value
returns-in_ok-from_parts-in-Some-clause-value g c =
    let told = c.in_ok-magnitude-in-Some in
    let s = c.solid_front-solid.result.now in
    (behind_blanks g.row.END c.requires.ends c.requires.solid g.T.Number.kind c.args.text.now s c.solid_front-solid.ensures).0 ∙ ap (λ s. number_in g.T.Number.kind (trimmed (front (until g.row.END) s))) (led_by 45 s c.in-Some.ensures.cases.0) ∙ plain_below g.T.Number.kind g.row.END c.requires.ends c.requires.solid (drop 1 s) told.magnitude told.rest.now (subst (λ s. Padded g.row.END s told.magnitude told.rest.now) c.in-Some.ensures.cases.1 (search rules)) ∙ search rules

pub returns-in_ok-from_parts-in-Some-clause-rest : goal.returns-in_ok-from_parts-in-Some-clause-rest
returns-in_ok-from_parts-in-Some-clause-rest g c =
    let told = c.in_ok-magnitude-in-Some in
    let s = c.solid_front-solid.result.now in
    let digits : Padded g.row.END (drop 1 s) told.magnitude told.rest.now = subst (λ s. Padded g.row.END s told.magnitude told.rest.now) c.in-Some.ensures.cases.1 (search rules) in
    digits.follows ∙ past_minus g.row.END s c.requires.ends c.requires.solid (led_by 45 s c.in-Some.ensures.cases.0) ∙ (behind_blanks g.row.END c.requires.ends c.requires.solid g.T.Number.kind c.args.text.now s c.solid_front-solid.ensures).1

pub returns-in_ok-from_parts-in-None-clause-value : goal.returns-in_ok-from_parts-in-None-clause-value
returns-in_ok-from_parts-in-None-clause-value g c =
    let told = c.in_ok-magnitude-in-None in
    let s = c.solid_front-solid.result.now in
    (behind_blanks g.row.END c.requires.ends c.requires.solid g.T.Number.kind c.args.text.now s c.solid_front-solid.ensures).0 ∙ plain_above g.T.Number.kind g.row.END c.requires.ends c.requires.solid s told.magnitude told.rest.now (search rules) ∙ search rules

pub returns-in_ok-from_parts-in-None-clause-rest : goal.returns-in_ok-from_parts-in-None-clause-rest
returns-in_ok-from_parts-in-None-clause-rest g c =
    let told = c.in_ok-magnitude-in-None in
    let s = c.solid_front-solid.result.now in
    let digits : Padded g.row.END s told.magnitude told.rest.now = search rules in
    digits.follows ∙ (behind_blanks g.row.END c.requires.ends c.requires.solid g.T.Number.kind c.args.text.now s c.solid_front-solid.ensures).1
