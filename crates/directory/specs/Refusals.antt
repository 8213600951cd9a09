-- Why a list of records is refused: the table of checks, each refusal's number and place.
use Rattle.std.specs.Prelude.{◌≡◌, ℕ, ◌≤◌, List, [], ◌∷◌, length, Result}
use Rattle.numbers.specs.Checks.{Check, whole, each, Answered}
use Rattle.directory.specs.declared.lookup.DirectoryRefusal.{DirectoryRefusal}
use Rattle.directory.specs.declared.lookup.DirectoryRefusal.TheVariants.{Count, IllFormed, NotRising}
use Rattle.directory.specs.Kinds.{Kind, Formed, Above}

-- a refusal's number
abbrev pub number_of : DirectoryRefusal → ℕ
number_of Count = 13
number_of (IllFormed place) = 11
number_of (NotRising place) = 12

-- the offender's place, counted from 1, or 0 for the whole list
abbrev pub place_of : DirectoryRefusal → ℕ
place_of Count = 0
place_of (IllFormed place) = place
place_of (NotRising place) = place

module _ {R K : Type 0} (kind : Kind R K) (xs : List R) where
  -- 13: there are records, and not too many
  abbrev pub count_check : Check
  count_check = whole 13 ((1 ≤ length xs) × (length xs ≤ kind.most))

  -- 11: each record is well-formed
  abbrev pub form_check : Check
  form_check = each 11 (length xs) (Formed kind xs)

  -- 12: each key is above the one before
  abbrev pub order_check : Check
  order_check = each 12 (length xs) (Above kind xs)

  -- the table, in its order
  abbrev pub checks : List Check
  checks = count_check ∷ form_check ∷ order_check ∷ []

  -- what making a directory answers: one of these records, where every check passes, or the refusal of the first check that does not
  abbrev pub Opened : {D : Type 0} → (D → List R) → Result D DirectoryRefusal → Type 0
  Opened records_of answer = Answered checks number_of place_of (λ d. records_of d ≡ xs) answer
