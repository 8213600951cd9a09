-- What the calls that write leave: the model, and the surplus.
use Rattle.std.proofs.Common.{◌≡◌, ℕ, ◌+◌, ◌-◌, ◌*◌, ◌<◌, ◌≤◌, ◌≢◌, ◌⊎◌, Bool, true, List, length, get_or, set, ℤ, pos, Some, None, refl, ap, ◌∙◌, subst, inr, mul-le-mul_right, arith, length-set, get_or-set_other}
use Rattle.law.specs.Settlements as words
use Rattle.law.specs.Settlements.{Among, SlotOf, Settlement, Lawful}
use Rattle.law.specs.Steps.{clear, first, checks, told, HoldsNow, accepted, void}
use Rattle.assess.specs.declared.slots.SlotId.{SlotId}
use Rattle.assess.specs.Slots.{type_number, Names, Within}
use Rattle.book.specs.declared.ledger.Book.{Book}
use Rattle.book.specs.declared.rows.Slot.{Slot}
use Rattle.book.specs.declared.rows.Entry.{Entry}
use Rattle.book.specs.Model.{means, blank, off, on, slot_at, entered, row, named}
use Rattle.book.specs.Books.{model, SameSurplus, Moves}
use Rattle.book.proofs.Fills.{NowAt, Cleared}
use Rattle.book.proofs.Places.{slot_under}
use Rattle.book.proofs.Settles.{settled, voided, step_put, void_accepted}

-- the book c is the book b with the mark of place k, and other entries
pub record Marked (b c : Book) (k : ℕ) (v : Slot) : Type 0 where
  pub parties_same : c.parties ≡ b.parties
  pub intervals_same : c.intervals ≡ b.intervals
  pub slots_lent : c.slots.ghost_name ≡ b.slots.ghost_name
  pub entries_lent : c.entries.ghost_name ≡ b.entries.ghost_name
  pub mark : c.slots.now ≡ set b.slots.now k v
  pub many : length c.entries.now ≡ length b.entries.now

module _ (b c : Book) (slot : SlotId) (k : ℕ) (v : Slot) (within : Within b.intervals slot) (at : k ≡ slot_at b.intervals (type_number slot.charge_type) slot.interval) (m : Marked b c k v) where
  under : k < 3 * b.intervals
  under = omega (arith, slot_under b.intervals (type_number slot.charge_type) slot.interval within)

  same_model : means b.parties b.intervals (set b.slots.now (slot_at b.intervals (type_number slot.charge_type) slot.interval) v) c.entries.now ≡ model c
  same_model = rw (m.parties_same, m.intervals_same, m.mark, at) refl

  pub marked_surplus : ((j : ℕ) → (j < k * b.parties) ⊎ (k * b.parties + b.parties ≤ j) → get_or c.entries.now j blank ≡ get_or b.entries.now j blank) → SameSurplus (3 * b.intervals) (3 * b.intervals * b.parties) b c
  marked_surplus f = record {
    slots_lent = m.slots_lent;
    entries_lent = m.entries_lent;
    slots_past = (ap length m.mark ∙ length-set b.slots.now k v, λ j h. let ne : j ≢ k = omega (arith, under) in ap (λ xs. get_or xs j off) m.mark ∙ get_or-set_other b.slots.now k j v off ne);
    entries_past = (m.many, λ j h. f j (inr (let up : k + 1 ≤ 3 * b.intervals = omega (arith, under) in let le = mul-le-mul_right b.parties up in omega (arith, le))));
  }

module _ (b c : Book) (slot : SlotId) (k t i : ℕ) (names : Names slot t i) (within : Within b.intervals slot) (at : k ≡ slot_at b.intervals (type_number slot.charge_type) slot.interval) where
  pub void_moves : Marked b c k off → (get_or b.slots.now k off).stands ≡ true → Cleared blank (k * b.parties) b.parties b.entries.now c.entries.now → Moves b (void t i) accepted c
  void_moves m st e =
      let tn = type_number slot.charge_type in
      let here = subst (λ j. (get_or b.slots.now j off).stands ≡ true) at st in
      let holds = voided b.parties b.intervals tn slot.interval b.slots.now b.entries.now c.entries.now within b.slotted (subst (λ x. Cleared blank (x * b.parties) b.parties b.entries.now c.entries.now) at e) in
      let moves : Moves b (void tn slot.interval) accepted c = record {
        step = record {
          lawful = tt;
          says = void_accepted b.intervals (get_or b.slots.now (slot_at b.intervals tn slot.interval) off).stands tn slot.interval within here;
          left = subst (λ after. HoldsNow (model b) tn slot.interval None after) (same_model b c slot k off within at m) holds;
        };
        surplus = marked_surplus b c slot k off within at m e.1;
        refusal = tt;
      } in
      subst (λ j. Moves b (void t j) accepted c) names.1 (subst (λ u. Moves b (void u slot.interval) accepted c) names.0 moves)

  pub put_moves : Marked b c k on → (w : Bool) (s : Settlement) → Lawful s.rule → clear ≡ first (checks b.parties b.intervals ((model b).stands (type_number slot.charge_type) slot.interval) w (type_number slot.charge_type) slot.interval s.loads s.lines) → NowAt (k * b.parties) b.parties (entered s) b.entries.now c.entries.now → Moves b (named w t i s) accepted c
  put_moves m w s law says e =
      let tn = type_number slot.charge_type in
      let holds = settled b.parties b.intervals tn slot.interval b.slots.now b.entries.now c.entries.now within b.slotted s (subst (λ x. NowAt (x * b.parties) b.parties (entered s) b.entries.now c.entries.now) at e) in
      let moves : Moves b (named w tn slot.interval s) accepted c = record {
        step = step_put w (model b) tn slot.interval s (model c) law (ap told says) (subst (λ after. HoldsNow (model b) tn slot.interval (Some s) after) (same_model b c slot k on within at m) holds);
        surplus = marked_surplus b c slot k on within at m e.1;
        refusal = tt;
      } in
      subst (λ j. Moves b (named w t j s) accepted c) names.1 (subst (λ u. Moves b (named w u slot.interval s) accepted c) names.0 moves)

-- a row whose amounts are the settlement's is the settlement's
pub row_entered : (s : Settlement) (paid charged : List ℤ) (p : ℕ) (e : Entry) → e ≡ row s.loads paid charged p → get_or paid (p - 1) (pos 0) ≡ words.source_lines s p → get_or charged (p - 1) (pos 0) ≡ words.charge_of s p → e ≡ entered s p
row_entered s paid charged p e is u v = is ∙ (λ x. record { load = words.load_of s p; paid = u x; charged = v x })

-- ---- opening
pub opened_surplus : (slots entries : ℕ) (b c : Book) → c.slots.ghost_name ≡ b.slots.ghost_name → c.entries.ghost_name ≡ b.entries.ghost_name → length c.slots.now ≡ length b.slots.now → length c.entries.now ≡ length b.entries.now → Cleared off 0 slots b.slots.now c.slots.now → Cleared blank 0 entries b.entries.now c.entries.now → SameSurplus slots entries b c
opened_surplus slots entries b c n k l m e f = record {
  slots_lent = n;
  entries_lent = k;
  slots_past = (l, λ j h. e.1 j (inr (omega arith)));
  entries_past = (m, λ j h. f.1 j (inr (omega arith)));
}
