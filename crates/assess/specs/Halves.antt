-- The checks of settle and restate in two halves: those on the slot and the loads, and those on the lines.
use Rattle.std.specs.Prelude.{ℕ, Bool, true, cond, not, ◌&&◌, List, [], ◌∷◌, length, sum, ◌==◌, nat_le, nat_lt, unsigned_abs}
use Rattle.charges.specs.Lines.{Line}
use Rattle.walk.specs.Flaws.{flaw_of}
use Rattle.walk.specs.Totals.{total_of}
use Rattle.law.specs.Steps.{Finding, holds_or, among, loads_from, flaw_found}

-- on the slot and the loads
abbrev pub slot_checks : (parties intervals : ℕ) (stands wanted : Bool) (t i : ℕ) → List ℕ → List Finding
slot_checks parties intervals stands wanted t i loads =
    holds_or (among t 3 && among i intervals) 31 0
    ∷ holds_or (length loads == parties) 32 0
    ∷ loads_from 1 loads
    ∷ holds_or (cond wanted stands (not stands)) 33 0
    ∷ []

-- on the lines
abbrev pub line_checks : (parties t i : ℕ) → List ℕ → List Line → List Finding
line_checks parties t i loads lines =
    flaw_found t i (flaw_of parties lines)
    ∷ holds_or (nat_le (unsigned_abs (total_of lines)) 5000000000) 37 0
    ∷ holds_or (cond (nat_lt 0 (sum loads)) true (unsigned_abs (total_of lines) == 0)) 38 0
    ∷ []
