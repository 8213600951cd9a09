-- Where slots and entries lie.
use Rattle.std.proofs.Common.{◌≡◌, ℕ, ◌+◌, ◌-◌, ◌*◌, ◌<◌, ◌≤◌, ◌⊎◌, List, refl, ap, inl, inr, mul-le-mul_right, arith}
use Rattle.std.proofs.lemmas.Nat.{mul-add-lt}
use Rattle.std.proofs.lemmas.Bool.{cases_eq, cases_lt}
use Rattle.law.specs.Settlements.{Among, SlotOf}
use Rattle.law.specs.Steps.{Fresh}
use Rattle.book.specs.declared.rows.Slot.{Slot}
use Rattle.book.specs.declared.rows.Entry.{Entry}
use Rattle.book.specs.Model.{means, blank, off, slot_at, entry_at, seen}
use Rattle.book.proofs.Fills.{Cleared}

pub slot_under : (m t i : ℕ) → SlotOf m t i → slot_at m t i < 3 * m
slot_under m t i h = omega (arith, mul-add-lt (t - 1) m (i - 1) 3 (omega arith) (omega arith))

pub entry_under : (n m t i p : ℕ) → SlotOf m t i → Among p n → entry_at n m t i p < 3 * m * n
entry_under n m t i p h a = omega (arith, mul-add-lt (slot_at m t i) n (p - 1) (3 * m) (slot_under m t i h) (omega arith))

-- a place of row a is no place of another row b
pub other_row : (a b n r : ℕ) → r < n → (a ≡ b → ⊥) → (a * n + r < b * n) ⊎ (b * n + n ≤ a * n + r)
other_row a b n r h ne = elim (cases_lt a b) [
  | inl l ↦ inl (let k = mul-le-mul_right n l in omega (arith, k))
  | inr g ↦ inr (let more : b + 1 ≤ a = omega arith in let k = mul-le-mul_right n more in omega (arith, k))
]

pub other_slot : (m u j t i : ℕ) → SlotOf m u j → SlotOf m t i → ((u ≡ t) × (j ≡ i) → ⊥) → slot_at m u j ≡ slot_at m t i → ⊥
other_slot m u j t i h k ne e = elim (cases_eq (u - 1) (t - 1)) [
  | inl same ↦ let row = ap (λ x. x * m) same in ne (omega arith, omega (arith, row))
  | inr no_row ↦ elim (other_row (u - 1) (t - 1) m (j - 1) (omega arith) no_row) [ inl l ↦ omega arith | inr l ↦ omega arith ]
]

pub fresh_cleared : (n m : ℕ) (slots slots' : List Slot) (entries entries' : List Entry) → Among n 64 → Among m 100 → Cleared off 0 (3 * m) slots slots' → Cleared blank 0 (3 * m * n) entries entries' → Fresh n m (means n m slots' entries')
fresh_cleared n m slots slots' entries entries' a b e f = record {
  few_parties = a;
  few_intervals = b;
  has_parties = refl;
  has_intervals = refl;
  none_stands = λ t i h. ap (λ s. s.stands) (e.0 (slot_at m t i) (omega arith) (let k = slot_under m t i h in omega arith));
  keeps_none = λ t i p h q. ap seen (f.0 (entry_at n m t i p) (omega arith) (let k = entry_under n m t i p h q in omega arith));
}
