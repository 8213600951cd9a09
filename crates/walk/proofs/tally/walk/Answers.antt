use Rattle.std.proofs.Common.{rules, ◌+◌, ◌-◌, arith}
use Rattle.walk.proofs.Steps.{part_near, total_near, line_on, last_line, walk_end}
use Rattle.walk.proofs.tally.walk.Goals as goal

pub overflow_add-paid : goal.overflow_add-paid
overflow_add-paid g c = part_near (g.S.LineSource.sound c.args.source.now) (omega arith) c.loop-n.invariant.walk (omega arith) (omega arith) c.in_ok-resource.resource c.in_ok-resource.party _ c.in_ok-resource.amount c.in_ok-resource.ensures (search rules) c.from.ensures

pub overflow_add-total : goal.overflow_add-total
overflow_add-total g c = total_near (g.S.LineSource.sound c.args.source.now) (omega arith) c.loop-n.invariant.walk (omega arith) (omega arith) c.in_ok-resource.resource c.in_ok-resource.party _ c.in_ok-resource.amount c.in_ok-resource.ensures (search rules) c.from.ensures

pub loop-n-preserved : goal.loop-n-preserved
loop-n-preserved g c = record { within = omega arith; walk = line_on (g.S.LineSource.sound c.args.source.now) (omega arith) c.loop-n.invariant.walk (omega arith) (omega arith) c.in_ok-resource.resource c.in_ok-resource.party _ c.in_ok-resource.amount c.in_ok-resource.ensures (search rules) c.from.ensures (c.loop-n.n + 1 - 1) (omega arith) }

pub returns-in_ok-resource : goal.returns-in_ok-resource
returns-in_ok-resource g c =
    let end = last_line (g.S.LineSource.sound c.args.source.now) (omega arith) c.loop-n.invariant.walk (omega arith) (omega arith) c.in_ok-resource.resource c.in_ok-resource.party _ c.in_ok-resource.amount c.in_ok-resource.ensures (search rules) c.from.ensures (omega arith) in
    record { answer = end.0; words = end.1; paid = end.2 }

pub returns-else-count-gt-MOST_LINES : goal.returns-else-count-gt-MOST_LINES
returns-else-count-gt-MOST_LINES g c =
    let end = walk_end c.loop-n.invariant.walk (omega arith) (omega arith) in
    record { answer = end.0; words = end.1; paid = end.2 }
