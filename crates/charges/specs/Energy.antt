-- The energy that a source's lines rest on, and when it is refused.
use Rattle.std.specs.Prelude.{ℕ, ◌≤◌, List, [], ◌∷◌, map, length, sum}
use Rattle.std.specs.List.{range_with_len}
use Rattle.numbers.specs.Checks.{Check, whole}
use Rattle.charges.specs.declared.energy.EnergyRefusal.{EnergyRefusal}
use Rattle.charges.specs.declared.energy.EnergyRefusal.TheVariants.{ManyLines}
use Rattle.charges.specs.Lines.{Line}

-- the sum of the bases of all lines
abbrev pub energy_of : List Line → (ℕ → ℕ) → ℕ
energy_of ls basis = sum (map basis (range_with_len 1 (length ls)))

-- at most 256 lines
abbrev pub checks : List Line → List Check
checks ls = whole 34 (length ls ≤ 256) ∷ []

-- a refusal's number
abbrev pub number_of : EnergyRefusal → ℕ
number_of ManyLines = 34

-- its place: it has none
abbrev pub place_of : EnergyRefusal → ℕ
place_of ManyLines = 0
