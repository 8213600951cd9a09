-- What a settle and a void leave.
use Rattle.std.proofs.Common.{◌≡◌, ℕ, ◌-◌, ◌*◌, ◌<◌, ◌≤◌, Bool, true, false, ◌&&◌, eqb, List, length, set, Some, None, refl, ap, arith, get_or-set_other, get_or-set_same}
use Rattle.std.proofs.lemmas.Bool.{and_from, eq-eqb, both_ways}
use Rattle.law.specs.Settlements.{SlotOf, Settlement, Book, Lawful}
use Rattle.law.specs.Steps.{HoldsNow, Step, accepted, told, first, checks, void_checks, among}
use Rattle.law.proofs.Table.{so_among}
use Rattle.book.specs.declared.rows.Slot.{Slot}
use Rattle.book.specs.declared.rows.Entry.{Entry}
use Rattle.book.specs.Model.{means, blank, off, on, slot_at, entry_at, seen, entered, named}
use Rattle.book.proofs.Fills.{NowAt, Cleared}
use Rattle.book.proofs.Places.{other_row, other_slot, slot_under}

pub void_accepted : (m : ℕ) (st : Bool) (t i : ℕ) → SlotOf m t i → st ≡ true → accepted ≡ told (first (void_checks m st t i))
void_accepted m st t i h e =
    let q : (among t 3 && among i m) ≡ true = and_from (among t 3) (among i m) (so_among t 3 h.0) (so_among i m h.1) in
    rw (q, e)

apart_slots : (u j t i : ℕ) → (eqb u t && eqb j i) ≡ false → (u ≡ t) × (j ≡ i) → ⊥
apart_slots u j t i e s = both_ways (eqb u t && eqb j i) e (and_from (eqb u t) (eqb j i) (eq-eqb u t s.0) (eq-eqb j i s.1))

-- one slot's mark and row written, what it then means
module _ (n m t i : ℕ) (slots : List Slot) (entries entries' : List Entry) (h : SlotOf m t i) (room : 3 * m ≤ length slots) where
  pub settled : (s : Settlement) → NowAt (slot_at m t i * n) n (entered s) entries entries' → HoldsNow (means n m slots entries) t i (Some s) (means n m (set slots (slot_at m t i) on) entries')
  settled s f =
      let lt : slot_at m t i < length slots = omega (arith, slot_under m t i h) in
      record {
        parties_stay = refl;
        intervals_stay = refl;
        stands_here = ap (λ x. x.stands) (get_or-set_same slots (slot_at m t i) on off lt);
        keeps_here = λ p a. ap seen (f.0 p a);
        stands_else = λ u j k ne. ap (λ x. x.stands) (get_or-set_other slots (slot_at m t i) (slot_at m u j) on off (other_slot m u j t i k h (apart_slots u j t i ne)));
        keeps_else = λ u j p k a ne. ap seen (f.1 (entry_at n m u j p) (other_row (slot_at m u j) (slot_at m t i) n (p - 1) (omega arith) (other_slot m u j t i k h (apart_slots u j t i ne))));
      }

  pub voided : Cleared blank (slot_at m t i * n) n entries entries' → HoldsNow (means n m slots entries) t i None (means n m (set slots (slot_at m t i) off) entries')
  voided f =
      let lt : slot_at m t i < length slots = omega (arith, slot_under m t i h) in
      record {
        parties_stay = refl;
        intervals_stay = refl;
        stands_here = ap (λ x. x.stands) (get_or-set_same slots (slot_at m t i) off off lt);
        keeps_here = λ p a. ap seen (f.0 (entry_at n m t i p) (omega arith) (omega arith));
        stands_else = λ u j k ne. ap (λ x. x.stands) (get_or-set_other slots (slot_at m t i) (slot_at m u j) off off (other_slot m u j t i k h (apart_slots u j t i ne)));
        keeps_else = λ u j p k a ne. ap seen (f.1 (entry_at n m u j p) (other_row (slot_at m u j) (slot_at m t i) n (p - 1) (omega arith) (other_slot m u j t i k h (apart_slots u j t i ne))));
      }

pub step_put : (w : Bool) (b : Book) (t i : ℕ) (s : Settlement) (after : Book) → Lawful s.rule → accepted ≡ told (first (checks b.parties b.intervals (b.stands t i) w t i s.loads s.lines)) → HoldsNow b t i (Some s) after → Step b (named w t i s) accepted after
step_put true b t i s after law e h = record { lawful = law; says = e; left = h }
step_put false b t i s after law e h = record { lawful = law; says = e; left = h }
