-- What a layer's table means, a map from resources to figures, and what setting and removing do to it.
use Rattle.std.specs.Prelude.{◌≡◌, ℕ, ◌+◌, ◌-◌, ◌<◌, true, cond, ◌⊎◌, List, [], ◌∷◌, ℤ, is_some, Some, None, Option, Result, MatchResult, OnErr, ◌==◌}
use Rattle.numbers.specs.Checks.{Check, whole, Passed, Refused}
use Rattle.charges.specs.declared.setting.SettingRefusal.{SettingRefusal}
use Rattle.charges.specs.declared.table.Table.{Table}
use Rattle.charges.specs.Refusals.{InRange, number_of, place_of}
use Rattle.charges.specs.Table.{held_in, held_count, or_zero}

-- for each number, the figure that is held, if it is
abbrev pub Held : Type 0
Held = ℕ → Option ℤ

-- what a table holds
abbrev pub held_by : Table → Held
held_by t r = held_in t.rows r

-- how many it holds
abbrev pub size_of : Table → ℕ
size_of t = held_count t.rows

-- the figure, 0 where there is none
abbrev pub figure_in : Held → ℕ → ℤ
figure_in held r = or_zero (held r)

-- nothing is held
abbrev pub nothing : Held
nothing r = None

-- the same but for resource r, which then has o
abbrev pub changed : Held → ℕ → Option ℤ → Held
changed held r o k = cond (k == r) o (held k)

-- there is a place: the resource's own, or a free one
abbrev pub HasPlace : Table → ℕ → Type 0
HasPlace t r = (is_some (held_by t r) ≡ true) ⊎ (size_of t < 32)

-- the checks of a setting, in order
abbrev pub checks : Table → ℕ → ℤ → List Check
checks t r f = whole 46 (InRange r f) ∷ whole 45 (HasPlace t r) ∷ []

-- how many are held once r is set
abbrev pub size_set : Table → ℕ → ℕ
size_set t r = cond (is_some (held_by t r)) (size_of t) (size_of t + 1)

-- how many are held once r is removed
abbrev pub size_removed : Table → ℕ → ℕ
size_removed t r = cond (is_some (held_by t r)) (size_of t - 1) (size_of t)

-- what a table holds after a change: a map, and so many
pub record Holds (t : Table) (held : Held) (size : ℕ) : Type 0 where
  pub map : held_by t ≡ held
  pub many : size_of t ≡ size

-- a setting answers by its checks: r then has f, and each other resource what it had; a refusal leaves the table
abbrev pub WasSet : (before after : Table) → ℕ → ℤ → Result (Unit {0}) SettingRefusal → Type 0
WasSet before after r f answer =
    MatchResult answer (λ _. Passed (checks before r f) × Holds after (changed (held_by before) r (Some f)) (size_set before r))
    (λ refusal. Refused (checks before r f) (number_of refusal) (place_of refusal) × (after ≡ before))

-- r is held no more, and each other resource has what it had; where r was not held, or is no resource's number, nothing is altered
pub record WasRemoved (before after : Table) (r : ℕ) : Type 0 where
  pub holds : Holds after (changed (held_by before) r None) (size_removed before r)
  pub kept : held_by before r ≡ None → after ≡ before
  pub outside : (r < 1) ⊎ (9999 < r) → after ≡ before

-- what a refused call leaves equal
abbrev pub KeptOnRefusal : {X : Type 0} → Result (Unit {0}) SettingRefusal → X → X → Type 0
KeptOnRefusal answer before after = OnErr answer (after ≡ before)
