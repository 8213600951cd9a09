-- What the rows of a book's tables mean.
use Rattle.std.specs.Prelude.{◌≡◌, ℕ, ◌+◌, ◌-◌, ◌*◌, ◌≤◌, Bool, true, false, List, length, get_or, ℤ, pos, slice_index, slice_index_or}
use Rattle.law.specs.Settlements as words
use Rattle.law.specs.Steps.{Call, settle, restate}
use Rattle.book.specs.declared.rows.Slot.{Slot}
use Rattle.book.specs.declared.rows.Entry.{Entry}
use Rattle.book.specs.declared.rows.Told.{Told}

-- A slot that does not stand.
abbrev pub off : Slot
off = record { stands = false }

-- A slot that stands.
abbrev pub on : Slot
on = record { stands = true }

-- An entry of zeros.
abbrev pub blank : Entry
blank = record { load = 0; paid = pos 0; charged = pos 0 }

-- What is told of an entry of a slot that stands.
abbrev pub told_of : Entry → Told
told_of e = record { stands = true; load = e.load; paid = e.paid; charged = e.charged }

-- Where a slot lies, and an entry.
abbrev pub slot_at : ℕ → ℕ → ℕ → ℕ
slot_at intervals t i = (t - 1) * intervals + (i - 1)

-- Where a party's entry lies.
abbrev pub entry_at : ℕ → ℕ → ℕ → ℕ → ℕ → ℕ
entry_at parties intervals t i p = slot_at intervals t i * parties + (p - 1)

-- An entry by the law's words.
abbrev pub seen : Entry → words.Entries
seen e = record { load = e.load; paid = e.paid; charged = e.charged }

-- Two tables by the law's words: which slots stand, and what each keeps.
abbrev pub means : ℕ → ℕ → List Slot → List Entry → words.Book
means parties intervals slots entries = record {
  parties = parties;
  intervals = intervals;
  stands = λ t i. (get_or slots (slot_at intervals t i) off).stands;
  keeps = λ t i p. seen (slice_index_or entries (entry_at parties intervals t i p) blank);
}

-- As many rows as before, and from the place n on each as it was.
abbrev pub SurplusStays : {X : Type 0} → X → ℕ → List X → List X → Type 0
SurplusStays y n before after = (length after ≡ length before) × ((j : ℕ) → n ≤ j → slice_index_or after j y ≡ slice_index_or before j y)

-- The entry of a party from its load and amounts.
abbrev pub row : List ℕ → List ℤ → List ℤ → ℕ → Entry
row loads paid charged p = record { load = slice_index loads (p - 1); paid = slice_index_or paid (p - 1) (pos 0); charged = slice_index_or charged (p - 1) (pos 0) }

-- The entry that a settlement posts for a party.
abbrev pub entered : words.Settlement → ℕ → Entry
entered s p = record { load = words.load_of s p; paid = words.source_lines s p; charged = words.charge_of s p }

-- The call of the two that wants the slot standing or not.
abbrev pub named : Bool → ℕ → ℕ → words.Settlement → Call
named true t i s = restate t i s
named false t i s = settle t i s
