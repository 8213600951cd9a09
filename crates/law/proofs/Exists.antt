-- Every call on every book has a step, and one only: the law is not empty, and what a call answers and leaves depends on its meaning alone.
use Rattle.std.proofs.Common.{◌≡◌, ℕ, Bool, true, false, cond, ◌&&◌, eqb, is_some, Some, None, Option, sym, refl, ap, ◌∙◌, subst}
use Rattle.std.proofs.lemmas.Bool.{eq-eqb, and_from, and_parts, eqb-true}
use Rattle.law.specs.Settlements.{Among, SlotOf, Settlement, Book, posted}
use Rattle.law.specs.Steps.{Call, settle, restate, void, balance, Answer, accepted, refused, balance_is, look, entry_is, answer, HoldsNow, Left, Leaves}
use Rattle.law.specs.Runs.{Agree, StepExists, StepOne}

abbrev pub held_next : Book → ℕ → ℕ → Option Settlement → Book
held_next b t i s = record {
  parties = b.parties;
  intervals = b.intervals;
  stands = λ u j. cond (eqb u t && eqb j i) (is_some s) (b.stands u j);
  keeps = λ u j p. cond (eqb u t && eqb j i) (posted s p) (b.keeps u j p);
}

here : (t i : ℕ) → (eqb t t && eqb i i) ≡ true
here t i = and_from (eqb t t) (eqb i i) (eq-eqb t t refl) (eq-eqb i i refl)

holds_next : (b : Book) (t i : ℕ) (s : Option Settlement) → HoldsNow b t i s (held_next b t i s)
holds_next b t i s = record {
  parties_stay = refl;
  intervals_stay = refl;
  stands_here = rw (here t i);
  keeps_here = λ p a. rw (here t i);
  stands_else = λ u j k e. rw e;
  keeps_else = λ u j p k a e. rw e;
}

leaves_next : (b : Book) (c : Call) → (after : Book) × Leaves b c after
leaves_next b (settle t i s) = (held_next b t i (Some s), holds_next b t i (Some s))
leaves_next b (restate t i s) = (held_next b t i (Some s), holds_next b t i (Some s))
leaves_next b (void t i) = (held_next b t i None, holds_next b t i None)
leaves_next b (balance p) = (b, refl)
leaves_next b (look t i p) = (b, refl)

left_next : (b : Book) (c : Call) (a : Answer) → (after : Book) × Left b c a after
left_next b c accepted = leaves_next b c
left_next b c (refused k p f) = (b, refl)
left_next b c (balance_is v) = (b, refl)
left_next b c (entry_is y z) = (b, refl)

pub step_exists : StepExists
step_exists b c law = let n = left_next b c (answer b c) in (n.0, record { lawful = law; says = refl; left = n.1 })

module _ (b x y : Book) (t i : ℕ) (s : Option Settlement) (h : HoldsNow b t i s x) (k : HoldsNow b t i s y) where
  same_stands : (u j : ℕ) → SlotOf b.intervals u j → (q : Bool) → (eqb u t && eqb j i) ≡ q → x.stands u j ≡ y.stands u j
  same_stands u j w true e =
      let both = and_parts (eqb u t) (eqb j i) e in
      let p1 = eqb-true u t both.0 in
      let p2 = eqb-true j i both.1 in
      rw (p1, p2) (h.stands_here ∙ sym k.stands_here)
  same_stands u j w false e = h.stands_else u j w e ∙ sym (k.stands_else u j w e)

  same_keeps : (u j p : ℕ) → SlotOf b.intervals u j → Among p b.parties → (q : Bool) → (eqb u t && eqb j i) ≡ q → x.keeps u j p ≡ y.keeps u j p
  same_keeps u j p w a true e =
      let both = and_parts (eqb u t) (eqb j i) e in
      let p1 = eqb-true u t both.0 in
      let p2 = eqb-true j i both.1 in
      rw (p1, p2) (h.keeps_here p a ∙ sym (k.keeps_here p a))
  same_keeps u j p w a false e = h.keeps_else u j p w a e ∙ sym (k.keeps_else u j p w a e)

  same_held : Agree x y b.parties b.intervals
  same_held = record { stands = λ u j w. same_stands u j w (eqb u t && eqb j i) refl; keeps = λ u j p w a. same_keeps u j p w a (eqb u t && eqb j i) refl }

same_book : (b x y : Book) → x ≡ b → y ≡ b → Agree x y b.parties b.intervals
same_book b x y e f = record { stands = λ t i w. ap (λ z. z.stands t i) (e ∙ sym f); keeps = λ t i p w a. ap (λ z. z.keeps t i p) (e ∙ sym f) }

same_left : (b x y : Book) (c : Call) (a : Answer) → Left b c a x → Left b c a y → Agree x y b.parties b.intervals
same_left b x y (settle t i s) accepted h k = same_held b x y t i (Some s) h k
same_left b x y (restate t i s) accepted h k = same_held b x y t i (Some s) h k
same_left b x y (void t i) accepted h k = same_held b x y t i None h k
same_left b x y (balance p) accepted h k = same_book b x y h k
same_left b x y (look t i p) accepted h k = same_book b x y h k
same_left b x y c (refused n p f) h k = same_book b x y h k
same_left b x y c (balance_is v) h k = same_book b x y h k
same_left b x y c (entry_is s e) h k = same_book b x y h k

pub step_one : StepOne
step_one b x y c a a' h k =
    let e = h.says ∙ sym k.says in
    (e, same_left b x y c a' (subst (λ z. Left b c z x) e h.left) k.left)
