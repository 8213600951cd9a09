-- A book by the law's words, and what a call on it leaves.
use Rattle.std.specs.Prelude.{◌≡◌, ℕ, ◌*◌, ◌≤◌, List, length, Ok, Err, Result}
use Rattle.charges.specs.Lines.{Line}
use Rattle.law.specs.Settlements as words
use Rattle.law.specs.Steps.{Call, Answer, accepted, refused, balance_is, entry_is, Step}
use Rattle.law.specs.Runs.{Opened}
use Rattle.book.specs.declared.ledger.Book.{Book}
use Rattle.assess.specs.declared.refusals.Refusal.{Refusal}
use Rattle.assess.specs.Refusals.{number_of, place_of, carries}
use Rattle.book.specs.declared.rows.Told.{Told}
use Rattle.book.specs.Model.{off, blank, means, SurplusStays}

-- What a settle or restate brings, from its loads, its source's lines and the meaning of its rule.
abbrev pub brought : List ℕ → List Line → words.Rule → words.Settlement
brought loads lines rule = record { loads = loads; lines = lines; rule = rule }

-- What entry tells, by the law's words.
abbrev pub said_entry : Result Told Refusal → Answer
said_entry (Ok x) = entry_is x.stands (record { load = x.load; paid = x.paid; charged = x.charged })
said_entry (Err e) = refused (number_of e) (place_of e) (carries e)

-- A book as the law sees it.
abbrev pub model : Book → words.Book
model b = means b.parties b.intervals b.slots.now b.entries.now

-- The book c is over the slices that b is over, of the same lengths; past so many slots and entries they are as they were.
pub record SameSurplus (slots entries : ℕ) (b c : Book) : Type 0 where
  pub slots_lent : c.slots.ghost_name ≡ b.slots.ghost_name
  pub entries_lent : c.entries.ghost_name ≡ b.entries.ghost_name
  pub slots_past : SurplusStays off slots b.slots.now c.slots.now
  pub entries_past : SurplusStays blank entries b.entries.now c.entries.now

-- A refused call leaves the whole book as it was, its slices with it.
abbrev pub Stays : Answer → Book → Book → Type 0
Stays accepted b c = Unit {0}
Stays (refused number place carried) b c = c ≡ b
Stays (balance_is v) b c = c ≡ b
Stays (entry_is stands e) b c = c ≡ b

-- A call on the book b that answers a leaves the book c.
pub record Moves (b : Book) (call : Call) (a : Answer) (c : Book) : Type 0 where
  pub step : Step (model b) call a (model c)
  pub surplus : SameSurplus (3 * b.intervals) (3 * b.intervals * b.parties) b c
  pub refusal : Stays a b c

-- The size is within the limits, and the slices hold what the book needs.
abbrev pub FitsIn : ℕ → ℕ → Book → Type 0
FitsIn parties intervals b = words.Among parties 64 × words.Among intervals 100 × (3 * intervals ≤ length b.slots.now) × (3 * intervals * parties ≤ length b.entries.now)

-- Opening: the book is fresh and keeps the law over runs from there on, and the surplus stays.
pub record OpensAt (parties intervals : ℕ) (b c : Book) : Type 0 where
  pub fits : FitsIn parties intervals b
  pub opened : Opened parties intervals (model c)
  pub surplus : SameSurplus (3 * intervals) (3 * intervals * parties) b c

-- Refused with 61 if it does not fit, and nothing is altered.
abbrev pub Opens : ℕ → ℕ → Book → Result (Unit {0}) Refusal → Book → Type 0
Opens parties intervals b (Ok x) c = OpensAt parties intervals b c
Opens parties intervals b (Err e) c = (number_of e ≡ 61) × (place_of e ≡ 0) × (FitsIn parties intervals b → ⊥) × (c ≡ b)
