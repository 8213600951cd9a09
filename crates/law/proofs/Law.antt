-- The law over runs.
use Rattle.law.specs.Runs.{RunLaw, Opened}
use Rattle.law.specs.Settlements.{Book}
use Rattle.law.specs.Steps.{Fresh}
use Rattle.std.proofs.Common.{ℕ}
use Rattle.law.proofs.Held.{held}
use Rattle.law.proofs.Claims.{entered, balanced, within_a_cent}
use Rattle.law.proofs.Rules.{alike}

pub run_law : RunLaw
run_law n m met b r =
    let h = held n m met b r in
    record { entered = entered n m met b h; balanced = balanced n m met b h; cents = within_a_cent n m met b h; any_rules = alike n m met b r }

pub opened : (n m : ℕ) (b : Book) → Fresh n m b → Opened n m b
opened n m b f = record { fresh = f; law = λ met after r. run_law n m met after (record { start = b; fresh = f; leads = r }) }
