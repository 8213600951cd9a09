-- Three equal loads, one line of -100 for the first party.
use Rattle.std.specs.Prelude.{ℕ, ◌≤◌, List, [], ◌∷◌, ℤ, pos, negsuc, ◌+ℤ◌, Ok, slice_index_or}
use Rattle.numbers.specs.Checks.{Check, whole, each}
use Rattle.law.specs.Settlements.{Rule, Settlement}
use Rattle.book.specs.declared.ledger.Book.{Book}
use Rattle.book.specs.Books.{FitsIn}

-- what is settled
abbrev pub bill : Rule → ℕ → Settlement
bill rule load = record { loads = load ∷ load ∷ load ∷ []; lines = Ok (1, 1, negsuc 99) ∷ []; rule = rule }

-- the three balances under a rule: the first party receives 100, and each is charged its share of 100
abbrev pub thirds_by : Rule → ℕ → ℤ × ℤ × ℤ
thirds_by rule load = let shares = rule (pos 100) (load ∷ load ∷ load ∷ []) in (negsuc 99 +ℤ slice_index_or shares 0 (pos 0), slice_index_or shares 1 (pos 0), slice_index_or shares 2 (pos 0))

-- what may refuse the settlement: the loads, and that there is no load though 100 is paid out
abbrev pub load_checks : ℕ → List Check
load_checks load = each 32 3 (λ _. load ≤ 20000000) ∷ whole 38 (1 ≤ load) ∷ []

-- and before it the opening of a book that may be too small
abbrev pub thirds_checks : Book → ℕ → List Check
thirds_checks b load = whole 61 (FitsIn 3 1 b) ∷ load_checks load
