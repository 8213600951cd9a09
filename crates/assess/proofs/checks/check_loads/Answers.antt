use Rattle.std.proofs.Common.{◌<◌, ◌≤◌, ℕ, get_or, length, rules, sym}
use Rattle.assess.proofs.Loads.{loads_until, loads_none}
use Rattle.assess.proofs.checks.check_loads.Goals as goal

pub returns-in-Some-clause-check : goal.returns-in-Some-clause-check
returns-in-Some-clause-check c =
    let h : (c.in-Some.before < length c.args.loads.now) × (20000000 < get_or c.args.loads.now c.in-Some.before 0) × ((k : ℕ) → k < c.in-Some.before → get_or c.args.loads.now k 0 ≤ 20000000) = search rules in
    sym (loads_until 1 c.in-Some.before c.args.loads.now h.0 h.1 h.2)

pub returns-clause-check : goal.returns-clause-check
returns-clause-check c =
    let h : (k : ℕ) → k < length c.args.loads.now → get_or c.args.loads.now k 0 ≤ 20000000 = search rules in
    sym (loads_none 1 c.args.loads.now h)
