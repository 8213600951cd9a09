use Rattle.std.proofs.Common.{◌+◌, ap, ◌∙◌, rules}
use Rattle.std.proofs.lemmas.List.{take_rest}
use Rattle.text.specs.Lines.{without_cr}
use Rattle.text.proofs.Ends.{line_at, line_whole, lines_next}
use Rattle.text.proofs.lines.next_line.Goals as goal

pub returns-in-Some : goal.returns-in-Some
returns-in-Some c =
    let s = c.args.text.now in
    let cut = line_at s c.in-Some.n c.in-Some.ensures in
    let line = c.without_cr.ensures ∙ ap without_cr cut.0 in
    let rest = take_rest s (c.in-Some.n + 1) ∙ cut.1 in
    record { line = line; rest = rest; lines = lines_next s _ _ line rest; fewer = search rules }

pub returns-in-None : goal.returns-in-None
returns-in-None c =
    let s = c.args.text.now in
    let cut = line_whole s c.in-None.ensures in
    let line = c.without_cr-in-None.ensures ∙ ap without_cr cut.0 in
    record { line = line; rest = cut.1; lines = lines_next s _ _ line cut.1; fewer = search rules }
