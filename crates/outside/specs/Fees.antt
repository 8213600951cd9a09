-- The firm's fees, settled in a book of two parties and one interval.
use Rattle.std.specs.Prelude.{◌≡◌, ℕ, ◌<◌, ◌⊎◌, List, [], ◌∷◌, ℤ, pos, ◌+ℤ◌, Ok, Err, Result}
use Rattle.charges.specs.declared.period.State.TheVariants.{Open}
use Rattle.charges.specs.Rows.{lines_by}
use Rattle.charges.specs.Settings.{nothing}
use Rattle.charges.specs.Denial.{denied_lines}
use Rattle.charges.specs.Period.{period_lines}
use Rattle.law.specs.Settlements as words
use Rattle.law.specs.Settlements.{Rule, Settlement}
use Rattle.law.specs.Steps.{Answer, accepted, refused, settle, balance, balance_is, answer}
use Rattle.law.specs.Runs.{Run}
use Rattle.assess.specs.declared.refusals.Refusal.{Refusal}
use Rattle.assess.specs.Refusals.{number_of, place_of, carries}
use Rattle.book.specs.declared.ledger.Book.{Book}
use Rattle.book.specs.Books.{model, brought, Opens}
use Rattle.outside.specs.declared.standby.Standby.{Standby}
use Rattle.outside.specs.Standby.{fee_line}

-- what is settled: the fees, under a denial of nothing and an open period
abbrev pub fees : List ℕ → Standby → Rule → Settlement
fees loads standby rule = brought loads (period_lines Open (denied_lines nothing (lines_by (fee_line standby) standby.count))) rule

-- a book opened fresh met that settle alone, and answered it so
abbrev pub FeesMet : Settlement → Answer → Book → Type 0
FeesMet s a after = Run 2 1 (record { call = settle 3 1 s; got = a } ∷ []) (model after)

-- the two balances are the book's answers; a book of fewer parties refuses one
abbrev pub Asked : words.Book → Result (ℤ × ℤ) Refusal → Type 0
Asked b (Ok v) = (balance_is v.0 ≡ answer b (balance 1)) × (balance_is v.1 ≡ answer b (balance 2))
Asked b (Err e) = b.parties < 2

-- accepted, the two balances are the book's, and add up to zero; refused, it was so by the opening or by the settle
abbrev pub FeesSettled : Settlement → Book → Result (ℤ × ℤ) Refusal → Book → Type 0
FeesSettled s before (Ok v) after = FeesMet s accepted after × Asked (model after) (Ok v) × (v.0 +ℤ v.1 ≡ pos 0)
FeesSettled s before (Err e) after = Opens 2 1 before (Err e) after ⊎ FeesMet s (refused (number_of e) (place_of e) (carries e)) after
