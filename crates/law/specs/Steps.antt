-- The calls, the table of refusals, and what a call answers and leaves.
use Rattle.std.specs.Prelude.{◌≡◌, ℕ, suc, Bool, true, false, cond, not, ◌&&◌, List, [], ◌∷◌, length, ℤ, pos, ◌+ℤ◌, is_some, Some, None, sum, Option, ◌==◌, nat_le, nat_lt, unsigned_abs}
use Rattle.charges.specs.declared.fault.Fault.{Fault}
use Rattle.charges.specs.Lines.{Line}
use Rattle.walk.specs.declared.flaw.Flaw.{Flaw}
use Rattle.walk.specs.declared.flaw.Flaw.TheVariants.{ManyLines, Faulty, Unfit}
use Rattle.walk.specs.Flaws.{number_of, place_of, flaw_of}
use Rattle.walk.specs.Totals.{total_of}
use Rattle.law.specs.Settlements.{Among, Lawful, Settlement, Book, Entries, zeros, posted, over_slots, SlotOf}

-- What a caller asks of a book.
pub data Call : Type 0 where
  settle : (type interval : ℕ) → Settlement → Call
  restate : (type interval : ℕ) → Settlement → Call
  void : (type interval : ℕ) → Call
  balance : (party : ℕ) → Call
  look : (type interval party : ℕ) → Call

-- What a refusal for a fault carries besides its number and place: the slot, and the fault whole.
pub record Carried : Type 0 where
  pub type : ℕ
  pub interval : ℕ
  pub fault : Fault

-- What a book answers.
pub data Answer : Type 0 where
  accepted : Answer
  refused : (number place : ℕ) → Option Carried → Answer
  balance_is : ℤ → Answer
  entry_is : Bool → Entries → Answer

-- What one check of the table finds: nothing, or its number with the place and, for a fault, what it carries.
pub data Finding : Type 0 where
  clear : Finding
  raises : (number place : ℕ) → Option Carried → Finding

-- A check that holds, or raises its number at a place.
abbrev pub holds_or : Bool → ℕ → ℕ → Finding
holds_or true number place = clear
holds_or false number place = raises number place None

-- The first check that raises its number decides.
abbrev pub both : Finding → Finding → Finding
both clear next = next
both (raises number place carried) next = raises number place carried

-- What the first check of a list finds that finds anything.
abbrev pub first : List Finding → Finding
first [] = clear
first (c ∷ cs) = both c (first cs)

-- k is one of 1, 2, .. n.
abbrev pub among : ℕ → ℕ → Bool
among k n = nat_le 1 k && nat_le k n

-- The loads one at a time: p is this party's number.
abbrev pub loads_from : ℕ → List ℕ → Finding
loads_from p [] = clear
loads_from p (l ∷ loads) = both (holds_or (nat_le l 20000000) 32 p) (loads_from (suc p) loads)

-- What a refusal of a line carries: for a fault the slot, and the fault whole.
abbrev pub carried_by : (t i : ℕ) → Flaw → Option Carried
carried_by t i ManyLines = None
carried_by t i (Faulty line fault) = Some (record { type = t; interval = i; fault = fault })
carried_by t i (Unfit line) = None

-- What the walk over the lines finds: 34 too many, 35 a fault, 36 a line that does not fit, whichever comes first.
abbrev pub flaw_found : (t i : ℕ) → Option Flaw → Finding
flaw_found t i None = clear
flaw_found t i (Some flaw) = raises (number_of flaw) (place_of flaw) (carried_by t i flaw)

-- The checks of settle and restate in the table's order. `wanted` says whether the slot has to stand.
abbrev pub checks : (parties intervals : ℕ) (stands wanted : Bool) (t i : ℕ) → List ℕ → List Line → List Finding
checks parties intervals stands wanted t i loads lines =
    holds_or (among t 3 && among i intervals) 31 0
    ∷ holds_or (length loads == parties) 32 0
    ∷ loads_from 1 loads
    ∷ holds_or (cond wanted stands (not stands)) 33 0
    ∷ flaw_found t i (flaw_of parties lines)
    ∷ holds_or (nat_le (unsigned_abs (total_of lines)) 5000000000) 37 0
    ∷ holds_or (cond (nat_lt 0 (sum loads)) true (unsigned_abs (total_of lines) == 0)) 38 0
    ∷ []

-- The checks of void.
abbrev pub void_checks : (intervals : ℕ) (stands : Bool) (t i : ℕ) → List Finding
void_checks intervals stands t i = holds_or (among t 3 && among i intervals) 31 0 ∷ holds_or stands 33 0 ∷ []

-- The checks of entry.
abbrev pub entry_checks : (parties intervals t i p : ℕ) → List Finding
entry_checks parties intervals t i p = holds_or (among t 3 && among i intervals) 31 0 ∷ holds_or (among p parties) 39 0 ∷ []

-- A party's three entries in a slot, zeros if it does not stand.
abbrev pub entry_in : Book → ℕ → ℕ → ℕ → Entries
entry_in b t i p = cond (b.stands t i) (b.keeps t i p) zeros

-- A party's paid and charged in a slot, 0 if it does not stand.
abbrev pub balance_at : Book → ℕ → ℕ → ℕ → ℤ
balance_at b p t i = cond (b.stands t i) ((b.keeps t i p).paid +ℤ (b.keeps t i p).charged) (pos 0)

-- The sum of a party's paid and charged over all standing slots.
abbrev pub balance_in : Book → ℕ → ℤ
balance_in b p = over_slots b.intervals (λ t i. balance_at b p t i)

-- What a call answers to what the checks find.
abbrev pub told : Finding → Answer
told clear = accepted
told (raises number place carried) = refused number place carried

-- The same of a balance.
abbrev pub told_balance : Finding → ℤ → Answer
told_balance clear v = balance_is v
told_balance (raises number place carried) v = refused number place carried

-- The same of an entry.
abbrev pub told_entry : Finding → Bool → Entries → Answer
told_entry clear stands e = entry_is stands e
told_entry (raises number place carried) stands e = refused number place carried

-- What a call answers.
abbrev pub answer : Book → Call → Answer
answer b (settle t i s) = told (first (checks b.parties b.intervals (b.stands t i) false t i s.loads s.lines))
answer b (restate t i s) = told (first (checks b.parties b.intervals (b.stands t i) true t i s.loads s.lines))
answer b (void t i) = told (first (void_checks b.intervals (b.stands t i) t i))
answer b (balance p) = told_balance (holds_or (among p b.parties) 39 0) (balance_in b p)
answer b (look t i p) = told_entry (first (entry_checks b.parties b.intervals t i p)) (b.stands t i) (entry_in b t i p)

-- The slot (t, i) now holds s, or nothing, and every other slot is as it was.
pub record HoldsNow (b : Book) (t i : ℕ) (s : Option Settlement) (after : Book) : Type 0 where
  pub parties_stay : after.parties ≡ b.parties
  pub intervals_stay : after.intervals ≡ b.intervals
  pub stands_here : after.stands t i ≡ is_some s
  pub keeps_here : (p : ℕ) → Among p b.parties → after.keeps t i p ≡ posted s p
  pub stands_else : (u j : ℕ) → SlotOf b.intervals u j → (u == t && j == i) ≡ false → after.stands u j ≡ b.stands u j
  pub keeps_else : (u j p : ℕ) → SlotOf b.intervals u j → Among p b.parties → (u == t && j == i) ≡ false → after.keeps u j p ≡ b.keeps u j p

-- What an accepted call leaves.
abbrev pub Leaves : Book → Call → Book → Type 0
Leaves b (settle t i s) after = HoldsNow b t i (Some s) after
Leaves b (restate t i s) after = HoldsNow b t i (Some s) after
Leaves b (void t i) after = HoldsNow b t i None after
Leaves b (balance p) after = after ≡ b
Leaves b (look t i p) after = after ≡ b

-- A refused call, a balance and a look leave the book as it was.
abbrev pub Left : Book → Call → Answer → Book → Type 0
Left b c accepted after = Leaves b c after
Left b c (refused number place carried) after = after ≡ b
Left b c (balance_is v) after = after ≡ b
Left b c (entry_is stands e) after = after ≡ b

-- A settle or restate brings a sharing rule that keeps its laws.
abbrev pub BringsLawful : Call → Type 0
BringsLawful (settle t i s) = Lawful s.rule
BringsLawful (restate t i s) = Lawful s.rule
BringsLawful (void t i) = Unit {0}
BringsLawful (balance p) = Unit {0}
BringsLawful (look t i p) = Unit {0}

-- One call on a book: what each contract cites.
pub record Step (b : Book) (c : Call) (a : Answer) (after : Book) : Type 0 where
  pub lawful : BringsLawful c
  pub says : a ≡ answer b c
  pub left : Left b c a after

-- A book just opened, with so many parties and intervals.
pub record Fresh (parties intervals : ℕ) (b : Book) : Type 0 where
  pub few_parties : Among parties 64
  pub few_intervals : Among intervals 100
  pub has_parties : b.parties ≡ parties
  pub has_intervals : b.intervals ≡ intervals
  pub none_stands : (t i : ℕ) → SlotOf intervals t i → b.stands t i ≡ false
  pub keeps_none : (t i p : ℕ) → SlotOf intervals t i → Among p parties → b.keeps t i p ≡ posted None p
