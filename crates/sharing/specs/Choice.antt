-- Either of our rules.
use Rattle.std.specs.Prelude.{ℕ, List, ℤ}
use Rattle.sharing.specs.declared.choice.RuleChoice.{RuleChoice}
use Rattle.sharing.specs.declared.choice.RuleChoice.TheVariants.{Running, Leftover}
use Rattle.sharing.specs.Rules.{Asked, Fair}
use Rattle.sharing.specs.Running.{running}
use Rattle.sharing.specs.RunningLaws.{running_fair}
use Rattle.sharing.specs.Leftover.{leftover}
use Rattle.sharing.specs.LeftoverLaws.{leftover_fair}

-- the shares by the chosen rule
abbrev pub chosen : RuleChoice → ℤ → List ℕ → List ℤ
chosen Running total loads = running total loads
chosen Leftover total loads = leftover total loads

-- they keep the laws, since those of both rules do
pub chosen_fair : (rule : RuleChoice) (total : ℤ) (loads : List ℕ) → Asked total loads → Fair total loads (chosen rule total loads)
chosen_fair Running total loads asked = running_fair total loads asked
chosen_fair Leftover total loads asked = leftover_fair total loads asked
