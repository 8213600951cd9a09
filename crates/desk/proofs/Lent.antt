-- A book over lent tables: what its calls leave in them.
use Rattle.std.proofs.Common.{◌≡◌, ℕ, List, [], ◌∷◌, Ok, Err, Result, refl, ap, ◌∙◌, subst}
use Rattle.law.specs.Settlements as words
use Rattle.law.specs.Steps.{Answer, accepted, refused, balance_is, entry_is, settle, Step}
use Rattle.law.specs.Runs.{MetCalls}
use Rattle.assess.specs.declared.refusals.Refusal.{Refusal}
use Rattle.book.specs.declared.ledger.Book.{Book}
use Rattle.book.specs.declared.rows.Slot.{Slot}
use Rattle.book.specs.declared.rows.Entry.{Entry}
use Rattle.book.specs.Model.{means}
use Rattle.book.specs.Books.{model, FitsIn, Opens, OpensAt}

-- a book that fits is opened
opens_at : (n m : ℕ) (b c : Book) (r : Result (Unit {0}) Refusal) → Opens n m b r c → FitsIn n m b → OpensAt n m b c
opens_at n m b c (Ok x) o f = o
opens_at n m b c (Err e) o f = absurd (o.2 f)

-- an opening leaves a book over the same tables
pub same_tables : (n m : ℕ) (b c : Book) (r : Result (Unit {0}) Refusal) → Opens n m b r c → (c.slots.ghost_name ≡ b.slots.ghost_name) × (c.entries.ghost_name ≡ b.entries.ghost_name)
same_tables n m b c (Ok x) o = (o.surplus.slots_lent, o.surplus.entries_lent)
same_tables n m b c (Err e) o = (ap (λ x. x.slots.ghost_name) o.3, ap (λ x. x.entries.ghost_name) o.3)

-- a settle leaves the book's size
same_size : (b after : words.Book) (t i : ℕ) (s : words.Settlement) (a : Answer) → Step b (settle t i s) a after → (after.parties ≡ b.parties) × (after.intervals ≡ b.intervals)
same_size b after t i s accepted h = (h.left.parties_stay, h.left.intervals_stay)
same_size b after t i s (refused k p f) h = (ap (λ x. x.parties) h.left, ap (λ x. x.intervals) h.left)
same_size b after t i s (balance_is v) h = (ap (λ x. x.parties) h.left, ap (λ x. x.intervals) h.left)
same_size b after t i s (entry_is y z) h = (ap (λ x. x.parties) h.left, ap (λ x. x.intervals) h.left)

-- what the tables hold once a book that fits was opened, met a settle and is gone
pub lent_met : (before opened after : Book) (s : words.Settlement) (r : Result (Unit {0}) Refusal) (a : Answer) (slots : List Slot) (entries : List Entry) → FitsIn 2 1 before → Opens 2 1 before r opened → Step (model opened) (settle 1 1 s) a (model after)
    → slots ≡ after.slots.now → entries ≡ after.entries.now → MetCalls 2 1 (settle 1 1 s ∷ []) (means 2 1 slots entries)
lent_met before opened after s r a slots entries fits o step e f =
    let fresh = (opens_at 2 1 before opened r o fits).opened.fresh in
    let size = same_size (model opened) (model after) 1 1 s a step in
    let met : MetCalls 2 1 (settle 1 1 s ∷ []) (model after) = record { met = record { call = settle 1 1 s; got = a } ∷ []; run = record { start = model opened; fresh = fresh; leads = (model opened, refl, step) }; those = refl } in
    let now : model after ≡ means 2 1 slots entries = rw (e, f, size.0 ∙ fresh.has_parties, size.1 ∙ fresh.has_intervals) refl in
    subst (MetCalls 2 1 (settle 1 1 s ∷ [])) now met
