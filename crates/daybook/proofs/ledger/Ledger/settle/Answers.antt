use Rattle.std.proofs.Common.{◌≡◌, ◌∙◌, sum, pos, refl, arith}
use Rattle.std.proofs.lemmas.Int.{ints}
use Rattle.daybook.proofs.Posted.{adds_up}
use Rattle.daybook.specs.Calls.{settled_lines}
use Rattle.daybook.proofs.ledger.Ledger.settle.Goals as goal

pub returns-clause-figures : goal.returns-clause-figures
returns-clause-figures c =
    let settlement = c.args.settlement.now in
    let lines = settled_lines settlement c.args.tables.now c.args.self.now.emergency.curves.records.now in
    let sums = adds_up c.args.mode settlement lines c.args.self.now.book c.put.new.self.book c.in_ok-lines.ensures.posts in
    let whole : pos c.posted.result.load ≡ pos (sum settlement.loads.items) = c.posted.ensures.load ∙ sums.load in
    let load : c.posted.result.load ≡ sum settlement.loads.items = omega (arith, ints, whole) in
    rw (c.posted.ensures.lines ∙ c.in_ok-lines.ensures.lines, c.posted.ensures.paid ∙ sums.paid, load) refl
