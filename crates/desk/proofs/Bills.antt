-- The book of the figure: when its settle is accepted, and what each party owes.
use Rattle.std.proofs.Common.{◌≡◌, ℕ, ◌<◌, ◌≤◌, true, false, ltb, leb, List, [], ◌∷◌, ℤ, None, Ok, Err, Result, sum, Option, refl, ap, ◌∙◌, inl, inr, ⊎_elim, arith}
use Rattle.std.proofs.lemmas.Int.{ints}
use Rattle.std.proofs.lemmas.Bool.{le-leb, lt-leb, lt-ltb, le-ltb, cases_lt}
use Rattle.numbers.specs.Checks.{Refused}
use Rattle.law.specs.Settlements.{Among, Book, Rule}
use Rattle.law.specs.Steps.{Carried, Answer, answer, settle, balance, balance_is, accepted, refused, Step}
use Rattle.assess.specs.declared.refusals.Refusal.{Refusal}
use Rattle.desk.specs.Asked.{Asked}
use Rattle.law.specs.Runs.{Met, MetCalls, Opened, owed, balance_told}
use Rattle.desk.specs.Thirds.{bill, thirds_by, load_checks}

loaded : (load : ℕ) → 1 ≤ load → ltb 0 (sum (load ∷ load ∷ load ∷ [])) ≡ true
loaded load h = lt-ltb 0 (sum (load ∷ load ∷ load ∷ [])) (omega arith)

unloaded : (load : ℕ) → load < 1 → ltb 0 (sum (load ∷ load ∷ load ∷ [])) ≡ false
unloaded load h = le-ltb 0 (sum (load ∷ load ∷ load ∷ [])) (omega arith)

-- what a book of three parties with a free slot answers to the bill
module _ (b : Book) (rule : Rule) (load : ℕ) (n : b.parties ≡ 3) (m : b.intervals ≡ 1) (st : b.stands 1 1 ≡ false) where
  bill_large : 20000000 < load → answer b (settle 1 1 (bill rule load)) ≡ refused 32 1 None
  bill_large h =
      let q : leb load 20000000 ≡ false = lt-leb load 20000000 h in
      rw (n, m, q)

  bill_uncovered : load ≤ 20000000 → load < 1 → answer b (settle 1 1 (bill rule load)) ≡ refused 38 0 None
  bill_uncovered hi h =
      let q : leb load 20000000 ≡ true = le-leb load 20000000 hi in
      let l = unloaded load h in
      rw (n, m, st, q, l)

  bill_accepted : load ≤ 20000000 → 1 ≤ load → answer b (settle 1 1 (bill rule load)) ≡ accepted
  bill_accepted hi lo =
      let q : leb load 20000000 ≡ true = le-leb load 20000000 hi in
      let l = loaded load lo in
      rw (n, m, st, q, l)

abbrev pub billed : Rule → ℕ → List Met
billed rule load = record { call = settle 1 1 (bill rule load); got = accepted } ∷ []

module _ (rule : Rule) (load : ℕ) (lo : 1 ≤ load) where
  pub owed_one : owed 1 (billed rule load) 1 ≡ (thirds_by rule load).0
  owed_one = let l = loaded load lo in rw l (omega (arith, ints))

  pub owed_two : owed 1 (billed rule load) 2 ≡ (thirds_by rule load).1
  owed_two = let l = loaded load lo in rw l (omega (arith, ints))

  pub owed_three : owed 1 (billed rule load) 3 ≡ (thirds_by rule load).2
  owed_three = let l = loaded load lo in rw l (omega (arith, ints))

module _ (start : Book) (rule : Rule) (load : ℕ) (o : Opened 3 1 start) where
  n : start.parties ≡ 3
  n = o.fresh.has_parties

  m : start.intervals ≡ 1
  m = o.fresh.has_intervals

  st : start.stands 1 1 ≡ false
  st = o.fresh.none_stands 1 1 ((omega arith, omega arith), (omega arith, omega arith))

  -- why it is refused
  pub refused_bill : (k p : ℕ) (f : Option Carried) → refused k p f ≡ answer start (settle 1 1 (bill rule load)) → Refused (load_checks load) k p
  refused_bill k p f e = ⊎_elim
      (λ lt.
      let told : refused k p f ≡ refused 32 1 None = e ∙ bill_large start rule load n m st lt in
      let number : k ≡ 32 = cc told in
      let place : p ≡ 1 = cc told in
      inl (number, omega arith, (omega arith, (λ le. omega arith), λ j h. absurd (omega arith))))
      (λ le. ⊎_elim
      (λ none.
      let told : refused k p f ≡ refused 38 0 None = e ∙ bill_uncovered start rule load n m st le none in
      let number : k ≡ 38 = cc told in
      let place : p ≡ 0 = cc told in
      inr ((λ j h. le), inl (number, place, λ lo. omega arith)))
      (λ some.
      let told : refused k p f ≡ accepted = e ∙ bill_accepted start rule load n m st le some in
      let z : ◌≡◌ {A = ℕ} 0 1 = cc told in
      absurd (omega arith))
      (cases_lt load 1))
      (cases_lt 20000000 load)

  -- when it is accepted
  pub accepted_bill : accepted ≡ answer start (settle 1 1 (bill rule load)) → (load ≤ 20000000) × (1 ≤ load)
  accepted_bill e = ⊎_elim
      (λ lt.
      let told : accepted ≡ refused 32 1 None = e ∙ bill_large start rule load n m st lt in
      let z : ◌≡◌ {A = ℕ} 0 1 = cc told in
      absurd (omega arith))
      (λ le. ⊎_elim
      (λ none.
      let told : accepted ≡ refused 38 0 None = e ∙ bill_uncovered start rule load n m st le none in
      let z : ◌≡◌ {A = ℕ} 0 1 = cc told in
      absurd (omega arith))
      (λ some. (le, some))
      (cases_lt load 1))
      (cases_lt 20000000 load)

  each_party : (b : Book) → Step start (settle 1 1 (bill rule load)) accepted b → (p : ℕ) → Among p 3 → (u : ℤ) → balance_is u ≡ answer b (balance p) → u ≡ owed 1 (billed rule load) p
  each_party b s p a u e = ap balance_told (e ∙ (o.law (billed rule load) b (start, refl, s)).balanced.each p a)

  three_balances : (b : Book) → Step start (settle 1 1 (bill rule load)) accepted b → (u v w : ℤ) → balance_is u ≡ answer b (balance 1) → balance_is v ≡ answer b (balance 2) → balance_is w ≡ answer b (balance 3) → (u ≡ (thirds_by rule load).0) × (v ≡ (thirds_by rule load).1) × (w ≡ (thirds_by rule load).2)
  three_balances b s u v w e f g =
      let lo = (accepted_bill s.says).1 in (
        each_party b s 1 (omega arith, omega arith) u e ∙ owed_one rule load lo,
        each_party b s 2 (omega arith, omega arith) v f ∙ owed_two rule load lo,
        each_party b s 3 (omega arith, omega arith) w g ∙ owed_three rule load lo,
      )

  pub asked_thirds : (b : Book) → Step start (settle 1 1 (bill rule load)) accepted b → (r : Result (ℤ × ℤ × ℤ) Refusal) → Asked b r → r ≡ Ok (thirds_by rule load)
  asked_thirds b s (Ok v) a = let t = three_balances b s v.0 v.1 v.2 a.0 a.1 a.2 in λ x. Ok (t.0 x, t.1 x, t.2 x)
  asked_thirds b s (Err e) a = absurd (let p = s.left.parties_stay in let q = o.fresh.has_parties in omega arith)

  -- the book then has met the bill
  pub met_bill : (b : Book) (a : Answer) → Step start (settle 1 1 (bill rule load)) a b → MetCalls 3 1 (settle 1 1 (bill rule load) ∷ []) b
  met_bill b a s = record { met = record { call = settle 1 1 (bill rule load); got = a } ∷ []; run = record { start = start; fresh = o.fresh; leads = (start, refl, s) }; those = refl }
