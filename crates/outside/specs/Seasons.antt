-- A rule by the month: leftover in the months of a calendar, running in the others.
use Rattle.std.specs.Prelude.{ℕ, Bool, true, false, cond, List, ℤ, ◌==◌}
use Rattle.std.specs.List.{list_any}
use Rattle.sharing.specs.Rules.{Asked, Fair}
use Rattle.sharing.specs.Running.{running}
use Rattle.sharing.specs.RunningLaws.{running_fair}
use Rattle.sharing.specs.Leftover.{leftover}
use Rattle.sharing.specs.LeftoverLaws.{leftover_fair}

-- the month is one of the calendar's
abbrev pub listed : List ℕ → ℕ → Bool
listed months month = list_any (λ m. m == month) months

-- the shares
abbrev pub seasonal : Bool → ℤ → List ℕ → List ℤ
seasonal is_listed total loads = cond is_listed (leftover total loads) (running total loads)

-- it keeps the laws, since both rules do
pub seasonal_fair : (is_listed : Bool) (total : ℤ) (loads : List ℕ) → Asked total loads → Fair total loads (seasonal is_listed total loads)
seasonal_fair true total loads asked = leftover_fair total loads asked
seasonal_fair false total loads asked = running_fair total loads asked
