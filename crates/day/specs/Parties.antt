-- The parties' codes in the order of enrolment, and the numbers that a map keeps for them.
use Rattle.std.specs.Prelude.{◌≡◌, ◌==◌, ◌-◌, ◌≤◌, ℕ, List, [], ◌∷◌, Option, Some, slice_get}
use Rattle.std.specs.declared.vec.Vec.{Vec}
use Rattle.std.specs.Bool.{MatchBool}
use Rattle.std.specs.HashMap.{HashMap, get_by}
use Rattle.std.specs.List.{position_from}
use Rattle.std.specs.Str.{bytes_eq}
use Rattle.text.specs.Numbers.{number_in, natural32}

-- the number, from 1, of the first party with that code
abbrev pub number_of : List ℕ → List (List ℕ) → Option ℕ
number_of code codes = position_from (bytes_eq code) 1 codes

-- the number that the map keeps for a code
abbrev pub kept_for : {Z S : Type 0} → List ℕ → HashMap (Vec ℕ Z) ℕ S → Option ℕ
kept_for code numbers = get_by (λ key. bytes_eq code key.items) numbers

-- the map keeps for each code the number of the first party with it, and for no other code a number
abbrev pub Agrees : {Z S : Type 0} → HashMap (Vec ℕ Z) ℕ S → List (List ℕ) → Type 0
Agrees numbers codes = (code : List ℕ) → kept_for code numbers ≡ number_of code codes

-- the party of that number has that code
abbrev pub HasCode : List (List ℕ) → ℕ → List ℕ → Type 0
HasCode codes number code = (1 ≤ number) × (slice_get codes (number - 1) ≡ Some code)

-- the party of that number goes by that name: # and digits that write the number, or else its code
abbrev pub GoesBy : List (List ℕ) → ℕ → List ℕ → Type 0
GoesBy codes number [] = HasCode codes number []
GoesBy codes number (c ∷ s) = MatchBool (c == 35) (number_in natural32 s ≡ Some number) (HasCode codes number (c ∷ s))
