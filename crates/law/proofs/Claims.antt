-- The claims from what the book is held to keep.
use Rattle.std.proofs.Common.{◌≡◌, ℕ, ◌-◌, ◌<◌, Bool, true, false, cond, ltb, List, get_or, pos, ◌+ℤ◌, ◌*ℤ◌, is_some, IfSome, Some, None, Option, refl, ap, ◌∙◌, arith}
use Rattle.std.proofs.lemmas.Int.{ints}
use Rattle.std.proofs.lemmas.Bool.{ltb-true, ltb-false, lt-ltb}
use Rattle.sharing.specs.Rules.{Asked, Fair}
use Rattle.law.specs.Settlements.{Among, apart, Settlement, Book, zeros, posted, over, over_slots, all_load, load_of, paid_out, source_lines, charge_of}
use Rattle.law.specs.Steps.{balance, balance_is, entry_is, answer, balance_in, among}
use Rattle.law.specs.Runs.{Met, standing, due, owed, balance_told, Entered, Balanced, WithinACent}
use Rattle.law.proofs.Totals.{over_same, over_add, over_none, over_items, slots_same, slots_none, slots_swap}
use Rattle.law.proofs.Table.{Sound, so_among, lines_add_up}
use Rattle.law.proofs.Held.{Held}

-- each entry
told_kept : (o : Option Settlement) (p : ℕ) → cond (is_some o) (posted o p) zeros ≡ posted o p
told_kept None p = refl
told_kept (Some s) p = refl

pub entered : (n m : ℕ) (met : List Met) (b : Book) → Held n m (standing met) b → Entered n m met b
entered n m met b h t i p k a =
    let type : among t 3 ≡ true = so_among t 3 k.0 in
    let interval : among i b.intervals ≡ true = rw h.has_intervals (so_among i m k.1) in
    let party : among p b.parties ≡ true = rw h.has_parties (so_among p n a) in
    let stands = h.stands t i k in
    let keeps = h.keeps t i p k a in
    rw (type, interval, party, stands, keeps) (ap (entry_is (is_some (standing met t i))) (told_kept (standing met t i) p))

-- (a), each balance
due_kept : (o : Option Settlement) (p : ℕ) → cond (is_some o) ((posted o p).paid +ℤ (posted o p).charged) (pos 0) ≡ due p o
due_kept None p = refl
due_kept (Some s) p = refl

balance_owed : (n m : ℕ) (met : List Met) (b : Book) → Held n m (standing met) b → (p : ℕ) → Among p n → balance_in b p ≡ owed m met p
balance_owed n m met b h p a =
    ap (λ x. over_slots x (λ t i. cond (b.stands t i) ((b.keeps t i p).paid +ℤ (b.keeps t i p).charged) (pos 0))) h.has_intervals
    ∙ slots_same m (λ t i. cond (b.stands t i) ((b.keeps t i p).paid +ℤ (b.keeps t i p).charged) (pos 0)) (λ t i. due p (standing met t i)) (λ t i k.
    let e1 = h.stands t i k in
    let e2 = h.keeps t i p k a in
    rw (e1, e2) (due_kept (standing met t i) p))

pub each_owed : (n m : ℕ) (met : List Met) (b : Book) → Held n m (standing met) b → (p : ℕ) → Among p n → answer b (balance p) ≡ balance_is (owed m met p)
each_owed n m met b h p a =
    let known : among p b.parties ≡ true = rw h.has_parties (so_among p n a) in
    let value = balance_owed n m met b h p a in
    rw (known, value)

-- (a), the sum
module _ (n m t i : ℕ) (s : Settlement) (ok : Sound n m t i s) (few : Among n 64) where
  asked : 0 < all_load s → Asked (paid_out s) s.loads
  asked l =
      let w = ok.within in
      let e = ok.one_each in
      record {
        range = omega (arith, ints);
        few = omega arith;
        each = ok.small;
        loaded = l;
      }

  pub fair : 0 < all_load s → Fair (paid_out s) s.loads (s.rule (paid_out s) s.loads)
  fair l = ok.lawful (paid_out s) s.loads (asked l)

  charges : (q : Bool) → ltb 0 (all_load s) ≡ q → over n (λ p. cond q (get_or (s.rule (paid_out s) s.loads) (p - 1) (pos 0)) (pos 0)) ≡ paid_out s
  charges true e =
      let f = fair (ltb-true 0 (all_load s) e) in
      over_items (s.rule (paid_out s) s.loads) n (f.count ∙ ok.one_each) ∙ f.whole
  charges false e =
      let none = over_none n (λ p. pos 0) (λ p h. refl) in
      let zero-load = ltb-false 0 (all_load s) e in
      let covered = ok.covered (omega arith) in
      omega (arith, ints, none, covered)

  pub settlement_zero : over n (λ p. source_lines s p +ℤ charge_of s p) ≡ pos 0
  settlement_zero =
      let add = over_add n (source_lines s) (charge_of s) in
      let lines = lines_add_up n 0 1 s.lines ok.to_parties in
      let shares = charges (ltb 0 (all_load s)) refl in
      omega (arith, ints, add, lines, shares)

slot_zero : (n m t i : ℕ) (o : Option Settlement) → Among n 64 → IfSome o (Sound n m t i) → over n (λ p. due p o) ≡ pos 0
slot_zero n m t i None few ok = over_none n (λ p. pos 0) (λ p h. refl)
slot_zero n m t i (Some s) few ok = settlement_zero n m t i s ok few

owed_zero : (n m : ℕ) (met : List Met) (b : Book) → Held n m (standing met) b → over n (λ p. owed m met p) ≡ pos 0
owed_zero n m met b h =
    slots_swap n m (λ p t i. due p (standing met t i))
    ∙ slots_none m (λ t i. over n (λ p. due p (standing met t i))) (λ t i k. slot_zero n m t i (standing met t i) h.few (h.sound t i))

pub balanced : (n m : ℕ) (met : List Met) (b : Book) → Held n m (standing met) b → Balanced n m met b
balanced n m met b h = record {
  each = each_owed n m met b h;
  zero_sum = over_same n (λ p. balance_told (answer b (balance p))) (λ p. owed m met p) (λ p a. ap balance_told (each_owed n m met b h p a)) ∙ owed_zero n m met b h;
}

-- (b)
pub charge_near : (n m t i : ℕ) (s : Settlement) → Sound n m t i s → Among n 64 → 0 < all_load s → (p : ℕ) → Among p n → apart (charge_of s p *ℤ pos (all_load s)) (paid_out s *ℤ pos (load_of s p)) < all_load s
charge_near n m t i s ok few l p a =
    let q : ltb 0 (all_load s) ≡ true = lt-ltb 0 (all_load s) l in
    let e = ok.one_each in
    rw q ((fair n m t i s ok few l).near (p - 1) (omega arith))

pub within_a_cent : (n m : ℕ) (met : List Met) (b : Book) → Held n m (standing met) b → WithinACent n met b
within_a_cent n m met b h t i s e l p a =
    let ok : Sound n m t i s = rw e at (h.sound t i) in
    let k = h.keeps t i p ok.slot a in
    rw (k, e) (charge_near n m t i s ok h.few l p a)
