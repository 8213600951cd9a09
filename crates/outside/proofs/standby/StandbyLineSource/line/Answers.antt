use Rattle.std.proofs.Common.{◌≤◌, ◌<◌, ◌⊎◌, Err, sym, ap, ◌∙◌, rules, arith}
use Rattle.std.proofs.lemmas.Grind.{common_steps}
use Rattle.charges.specs.SourceLaws.{line_at_made, line_at_unmade}
use Rattle.outside.specs.Standby.{fee_line}
use Rattle.outside.proofs.standby.StandbyLineSource.line.Goals as goal

pub returns-then-not-contains : goal.returns-then-not-contains
returns-then-not-contains c =
    let past : (c.args.n < 1) ⊎ (c.args.self.now.count < c.args.n) = grind (arith, common_steps) in
    ap Err c.no_line.ensures ∙ sym (line_at_unmade (fee_line c.args.self.now) c.args.self.now.count c.args.n past)

pub returns : goal.returns
returns c =
    let low : 1 ≤ c.args.n = search rules in
    let high : c.args.n ≤ c.args.self.now.count = search rules in
    c.fee.ensures ∙ sym (line_at_made (fee_line c.args.self.now) c.args.self.now.count c.args.n low high)
