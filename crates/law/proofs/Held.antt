-- The book keeps what the list of calls and answers says.
use Rattle.std.proofs.Common.{◌≡◌, ℕ, Bool, true, false, cond, ◌&&◌, eqb, List, [], ◌∷◌, is_some, IfSome, Some, None, Option, sym, refl, ◌∙◌, subst, arith}
use Rattle.std.proofs.lemmas.Bool.{and_parts, eqb-true}
use Rattle.law.specs.Settlements.{Among, SlotOf, Settlement, Book, posted, Lawful}
use Rattle.law.specs.Steps.{Call, settle, restate, void, balance, Answer, accepted, refused, balance_is, look, entry_is, answer, HoldsNow, Left, BringsLawful, Step, Fresh, first, checks, void_checks}
use Rattle.law.specs.Runs.{Met, Run, Leads, standing, took, about, brings}
use Rattle.law.proofs.Table.{Sound, checks_so, told_so}

abbrev pub All-sound : ℕ → ℕ → (ℕ → ℕ → Option Settlement) → Type 0
All-sound n m st = (t i : ℕ) → IfSome (st t i) (Sound n m t i)

pub record Held (n m : ℕ) (st : ℕ → ℕ → Option Settlement) (b : Book) : Type 0 where
  pub few : Among n 64
  pub has_parties : b.parties ≡ n
  pub has_intervals : b.intervals ≡ m
  pub stands : (t i : ℕ) → SlotOf m t i → b.stands t i ≡ is_some (st t i)
  pub keeps : (t i p : ℕ) → SlotOf m t i → Among p n → b.keeps t i p ≡ posted (st t i) p
  pub sound : All-sound n m st

held_fresh : (n m : ℕ) (b : Book) → Fresh n m b → Held n m (standing []) b
held_fresh n m b f = record {
  few = f.few_parties;
  has_parties = f.has_parties;
  has_intervals = f.has_intervals;
  stands = f.none_stands;
  keeps = f.keeps_none;
  sound = λ t i. tt;
}

module _ (n m : ℕ) (st : ℕ → ℕ → Option Settlement) (before b : Book) (t i : ℕ) (new : Option Settlement) (old : Held n m st before) (left : HoldsNow before t i new b) (ok : IfSome new (Sound n m t i)) where
  slot_of : (u j : ℕ) → SlotOf m u j → SlotOf before.intervals u j
  slot_of u j h = let e = old.has_intervals in omega arith

  among_of : (p : ℕ) → Among p n → Among p before.parties
  among_of p h = let e = old.has_parties in omega arith

  stands_now : (u j : ℕ) → SlotOf m u j → (q : Bool) → (eqb u t && eqb j i) ≡ q → b.stands u j ≡ is_some (cond q new (st u j))
  stands_now u j h true e =
      let both = and_parts (eqb u t) (eqb j i) e in
      let p1 = eqb-true u t both.0 in
      let p2 = eqb-true j i both.1 in
      rw (p1, p2) left.stands_here
  stands_now u j h false e = left.stands_else u j (slot_of u j h) e ∙ old.stands u j h

  keeps_now : (u j p : ℕ) → SlotOf m u j → Among p n → (q : Bool) → (eqb u t && eqb j i) ≡ q → b.keeps u j p ≡ posted (cond q new (st u j)) p
  keeps_now u j p h a true e =
      let both = and_parts (eqb u t) (eqb j i) e in
      let p1 = eqb-true u t both.0 in
      let p2 = eqb-true j i both.1 in
      rw (p1, p2) (left.keeps_here p (among_of p a))
  keeps_now u j p h a false e = left.keeps_else u j p (slot_of u j h) (among_of p a) e ∙ old.keeps u j p h a

  sound_now : (u j : ℕ) (q : Bool) → (eqb u t && eqb j i) ≡ q → IfSome (cond q new (st u j)) (Sound n m u j)
  sound_now u j true e =
      let both = and_parts (eqb u t) (eqb j i) e in
      let p1 = eqb-true u t both.0 in
      let p2 = eqb-true j i both.1 in
      rw (p1, p2) ok
  sound_now u j false e = old.sound u j

  held_now : Held n m (λ u j. cond (eqb u t && eqb j i) new (st u j)) b
  held_now = record {
    few = old.few;
    has_parties = left.parties_stay ∙ old.has_parties;
    has_intervals = left.intervals_stay ∙ old.has_intervals;
    stands = λ u j h. stands_now u j h (eqb u t && eqb j i) refl;
    keeps = λ u j p h a. keeps_now u j p h a (eqb u t && eqb j i) refl;
    sound = λ u j. sound_now u j (eqb u t && eqb j i) refl;
  }

-- what the table let through, at the book's own numbers
sound_at : (n m : ℕ) (b : Book) (w : Bool) (t i : ℕ) (s : Settlement) → b.parties ≡ n → b.intervals ≡ m → Lawful s.rule → first (checks b.parties b.intervals (b.stands t i) w t i s.loads s.lines) ≡ Rattle.law.specs.Steps.clear → Sound n m t i s
sound_at n m b w t i s p q law e = subst (λ x. Sound x m t i s) p (subst (λ y. Sound b.parties y t i s) q (checks_so b.parties b.intervals (b.stands t i) w t i s law e))

held_step : (n m : ℕ) (st : ℕ → ℕ → Option Settlement) (before b : Book) (c : Call) (a : Answer) → BringsLawful c → a ≡ answer before c → Left before c a b → Held n m st before → Held n m (λ t i. cond (took a && about c t i) (brings c) (st t i)) b
held_step n m st before b (settle t i s) accepted law e left old = held_now n m st before b t i (Some s) old left (sound_at n m before false t i s old.has_parties old.has_intervals law (told_so _ e))
held_step n m st before b (restate t i s) accepted law e left old = held_now n m st before b t i (Some s) old left (sound_at n m before true t i s old.has_parties old.has_intervals law (told_so _ e))
held_step n m st before b (void t i) accepted law e left old = held_now n m st before b t i None old left tt
held_step n m st before b (balance p) accepted law e left old = subst (λ x. Held n m st x) (sym left) old
held_step n m st before b (look t i p) accepted law e left old = subst (λ x. Held n m st x) (sym left) old
held_step n m st before b c (refused k p f) law e left old = subst (λ x. Held n m st x) (sym left) old
held_step n m st before b c (balance_is v) law e left old = subst (λ x. Held n m st x) (sym left) old
held_step n m st before b c (entry_is y z) law e left old = subst (λ x. Held n m st x) (sym left) old

held_from : (n m : ℕ) (start : Book) → Fresh n m start → (met : List Met) (b : Book) → Leads start met b → Held n m (standing met) b
held_from n m start f [] b e = subst (λ x. Held n m (standing []) x) (sym e) (held_fresh n m start f)
held_from n m start f (x ∷ met) b r = held_step n m (standing met) r.0 b x.call x.got r.2.lawful r.2.says r.2.left (held_from n m start f met r.0 r.1)

pub held : (n m : ℕ) (met : List Met) (b : Book) → Run n m met b → Held n m (standing met) b
held n m met b r = held_from n m r.start r.fresh met b r.leads
