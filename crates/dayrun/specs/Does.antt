-- What a call of a day does.
use Rattle.std.specs.Prelude.{◌≡◌, ℕ, ℤ, List, Some, None, Ok, Err, Option, Result}
use Rattle.assess.specs.declared.refusals.Refusal.{Refusal}
use Rattle.assess.specs.Refusals.{number_of, place_of, carries}
use Rattle.book.specs.declared.ledger.Book.{Book}
use Rattle.book.specs.declared.rows.Told.{Told}
use Rattle.book.specs.Books.{model, said_entry, Moves}
use Rattle.curves.specs.declared.points.SubmittedCurve.{SubmittedCurve}
use Rattle.day.specs.declared.records.Call.{Call}
use Rattle.day.specs.declared.records.Call.TheVariants as calls
use Rattle.day.specs.declared.records.Settlement.{Settlement}
use Rattle.daybook.specs.declared.answer.Answer.{Answer}
use Rattle.daybook.specs.declared.answer.Answer.TheVariants as answers
use Rattle.daybook.specs.declared.ledger.Ledger.{Ledger}
use Rattle.daybook.specs.declared.ledger.Mode.{Mode}
use Rattle.daybook.specs.declared.ledger.Mode.TheVariants as modes
use Rattle.daybook.specs.declared.ledger.Posted.{Posted}
use Rattle.daybook.specs.declared.notdone.Refused.{Refused as Refusing}
use Rattle.daybook.specs.declared.notdone.NotDone.{NotDone}
use Rattle.daybook.specs.declared.notdone.NotDone.TheVariants.{Malformed, Refused, Memory}
use Rattle.daybook.specs.declared.tables.Tables.{Tables}
use Rattle.daybook.specs.Calls.{asked, settled_lines, posted_over, type_in, DayEnergy, NotTaken}
use Rattle.daybook.specs.Told.{told_of}
use Rattle.law.specs.Steps as law

-- The book took the settlement, whose figures are answered; or it refused it. Where memory was short the run ends, and nothing is promised.
abbrev pub Settles : Book → law.Call → Posted → Result Answer NotDone → Book → Type 0
Settles b call figures (Ok a) c = (a ≡ answers.Posted figures) × Moves b call law.accepted c
Settles b call figures (Err e) c = NotTaken (Unit {0}) b call e c

-- that of a record over the day's tables
abbrev pub DaySettles : Mode → Settlement → Tables → List SubmittedCurve → Book → Result Answer NotDone → Book → Type 0
DaySettles mode settlement tables curves b result c = Settles b (asked mode settlement tables curves) (posted_over settlement (settled_lines settlement tables curves)) result c

-- The book took the void, and that is answered; or it refused it. The same of memory.
abbrev pub Voids : Book → law.Call → Result Answer NotDone → Book → Type 0
Voids b call (Ok a) c = (a ≡ answers.Done) × Moves b call law.accepted c
Voids b call (Err e) c = NotTaken (Unit {0}) b call e c

-- The book refuses a question, which is told and leaves it as it was; a question needs no memory.
abbrev pub NotSaid : Book → law.Call → NotDone → Type 0
NotSaid b call (Refused r) = (refusal : Refusal) × (r ≡ told_of refusal) × law.Step (model b) call (law.refused (number_of refusal) (place_of refusal) (carries refusal)) (model b)
NotSaid b call (Malformed k) = ⊥
NotSaid b call Memory = ⊥

-- a party's balance
abbrev pub SaysBalance : Book → ℕ → Result Answer NotDone → Type 0
SaysBalance b party (Ok a) = (v : ℤ) × (a ≡ answers.Balance v) × law.Step (model b) (law.balance party) (law.balance_is v) (model b)
SaysBalance b party (Err e) = NotSaid b (law.balance party) e

-- what is kept for a party in a slot
abbrev pub SaysEntry : Book → law.Call → Result Answer NotDone → Type 0
SaysEntry b call (Ok a) = (x : Told) × (a ≡ answers.Entry x) × law.Step (model b) call (said_entry (Ok x)) (model b)
SaysEntry b call (Err e) = NotSaid b call e

-- a day's energy
abbrev pub SaysEnergy : (Result ℕ NotDone → Type 0) → Result Answer NotDone → Type 0
SaysEnergy Told (Ok a) = (kwh : ℕ) × (a ≡ answers.Energy kwh) × Told (Ok kwh)
SaysEnergy Told (Err e) = Told (Err e)

-- what a call does on the open book, over the day's tables
abbrev pub Does : Call → Tables → Ledger → Result Answer NotDone → Ledger → Type 0
Does (calls.Settle settlement) tables old result new = DaySettles modes.Settle settlement tables old.emergency.curves.records.now old.book result new.book
Does (calls.Restate settlement) tables old result new = DaySettles modes.Restate settlement tables old.emergency.curves.records.now old.book result new.book
Does (calls.Void slot) tables old result new = Voids old.book (law.void (type_in slot) slot.interval) result new.book
Does (calls.Balance party) tables old result new = SaysBalance old.book party.number result × (new.book ≡ old.book)
Does (calls.Entry slot party) tables old result new = SaysEntry old.book (law.look (type_in slot) slot.interval party.number) result × (new.book ≡ old.book)
Does (calls.Energy name) tables old result new = SaysEnergy (DayEnergy name tables old.emergency.curves.records.now) result × (new.book ≡ old.book)

-- Where the opening was refused, so is every call, and nothing is altered; else the call is done.
abbrev pub DoesOr : Option Refusing → Call → Tables → Ledger → Result Answer NotDone → Ledger → Type 0
DoesOr None call tables old result new = Does call tables old result new
DoesOr (Some r) call tables old result new = (result ≡ Err (Refused r)) × (new ≡ old)
