-- The three balances that a book answers.
use Rattle.std.specs.Prelude.{◌≡◌, ◌<◌, ℤ, Ok, Err, Result}
use Rattle.law.specs.Settlements.{Book}
use Rattle.law.specs.Steps.{answer, balance, balance_is}
use Rattle.assess.specs.declared.refusals.Refusal.{Refusal}

-- each is the book's answer to its party; a book of fewer parties refuses one
abbrev pub Asked : Book → Result (ℤ × ℤ × ℤ) Refusal → Type 0
Asked b (Ok v) = (balance_is v.0 ≡ answer b (balance 1)) × (balance_is v.1 ≡ answer b (balance 2)) × (balance_is v.2 ≡ answer b (balance 3))
Asked b (Err e) = b.parties < 3
