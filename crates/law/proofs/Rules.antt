-- Another sharing rule changes no verdict, and no balance by more than a cent for each standing settlement.
use Rattle.std.proofs.Common.{◌≡◌, ℕ, ◌<◌, ◌≤◌, Bool, true, false, cond, ◌&&◌, eqb, ltb, List, [], ◌∷◌, map, ℤ, pos, ◌≤ℤ◌, is_some, IfSome, Some, None, sum, Option, sym, refl, ap, ◌∙◌, subst, arith}
use Rattle.std.proofs.lemmas.Int.{ints}
use Rattle.std.proofs.lemmas.Bool.{ltb-true}
use Rattle.charges.specs.Lines.{Line}
use Rattle.walk.specs.Totals.{sum_for}
use Rattle.law.specs.Settlements.{Among, apart, SlotOf, Settlement, Book, Entries, zeros, all_load, load_of, paid_out, source_lines, charge_of}
use Rattle.law.specs.Steps.{Call, settle, restate, void, balance, look, Answer, accepted, refused, balance_is, entry_is, answer, told, told_balance, told_entry, entry_checks, holds_or, among, both, first, checks, void_checks, Finding, clear, raises, Fresh}
use Rattle.law.specs.Runs.{Met, Run, Leads, standing, took, about, brings, due, one_if, Plain, settles, restates, voids, asks, looks, plain, Verdict, accepts, refuses, answers, verdict, Alike}
use Rattle.law.proofs.Totals.{slots_near, one_cent}
use Rattle.law.proofs.Table.{Sound, slot_so}
use Rattle.law.proofs.Held.{held}
use Rattle.law.proofs.Claims.{each_owed, charge_near}

-- a settlement but for its rule
pub record Bare : Type 0 where
  pub loads : List ℕ
  pub lines : List Line

abbrev bare : Option Settlement → Option Bare
bare None = None
bare (Some s) = Some (record { loads = s.loads; lines = s.lines })

abbrev takes : Verdict → Bool
takes accepts = true
takes (refuses k p f) = false
takes answers = false

abbrev about_plain : Plain → ℕ → ℕ → Bool
about_plain (settles u j loads lines) t i = eqb t u && eqb i j
about_plain (restates u j loads lines) t i = eqb t u && eqb i j
about_plain (voids u j) t i = eqb t u && eqb i j
about_plain (asks p) t i = false
about_plain (looks u j p) t i = false

abbrev brings_bare : Plain → Option Bare
brings_bare (settles u j loads lines) = Some (record { loads = loads; lines = lines })
brings_bare (restates u j loads lines) = Some (record { loads = loads; lines = lines })
brings_bare (voids u j) = None
brings_bare (asks p) = None
brings_bare (looks u j p) = None

-- what the calls say of a slot, their rules apart, with the verdicts
abbrev bare_standing : List Plain → List Verdict → ℕ → ℕ → Option Bare
bare_standing [] vs t i = None
bare_standing (q ∷ qs) [] t i = None
bare_standing (q ∷ qs) (v ∷ vs) t i = cond (takes v && about_plain q t i) (brings_bare q) (bare_standing qs vs t i)

bare_cond : (q : Bool) (x y : Option Settlement) → bare (cond q x y) ≡ cond q (bare x) (bare y)
bare_cond true x y = refl
bare_cond false x y = refl

takes_is : (a : Answer) → took a ≡ takes (verdict a)
takes_is accepted = refl
takes_is (refused k p f) = refl
takes_is (balance_is v) = refl
takes_is (entry_is y z) = refl

about_is : (c : Call) (t i : ℕ) → about c t i ≡ about_plain (plain c) t i
about_is (settle u j s) t i = refl
about_is (restate u j s) t i = refl
about_is (void u j) t i = refl
about_is (balance p) t i = refl
about_is (look u j p) t i = refl

brings_is : (c : Call) → bare (brings c) ≡ brings_bare (plain c)
brings_is (settle u j s) = refl
brings_is (restate u j s) = refl
brings_is (void u j) = refl
brings_is (balance p) = refl
brings_is (look u j p) = refl

abbrev plains : List Met → List Plain
plains met = map (λ m. plain m.call) met

abbrev verdicts : List Met → List Verdict
verdicts met = map (λ m. verdict m.got) met

bare_is : (met : List Met) (t i : ℕ) → bare (standing met t i) ≡ bare_standing (plains met) (verdicts met) t i
bare_is [] t i = refl
bare_is (x ∷ met) t i =
    let e1 = takes_is x.got in
    let e2 = about_is x.call t i in
    let e3 = brings_is x.call in
    let e4 = bare_is met t i in
    bare_cond (took x.got && about x.call t i) (brings x.call) (standing met t i) ∙ cc

-- the verdict of a call, from which slots stand
abbrev verdict_for : ℕ → ℕ → (ℕ → ℕ → Bool) → Plain → Verdict
verdict_for n m st (settles t i loads lines) = verdict (told (first (checks n m (st t i) false t i loads lines)))
verdict_for n m st (restates t i loads lines) = verdict (told (first (checks n m (st t i) true t i loads lines)))
verdict_for n m st (voids t i) = verdict (told (first (void_checks m (st t i) t i)))
verdict_for n m st (asks p) = verdict (told_balance (holds_or (among p n) 39 0) (pos 0))
verdict_for n m st (looks t i p) = verdict (told_entry (first (entry_checks n m t i p)) false zeros)

any_value : (c : Finding) (v w : ℤ) → verdict (told_balance c v) ≡ verdict (told_balance c w)
any_value clear v w = refl
any_value (raises k p f) v w = refl

any_entry : (c : Finding) (s s' : Bool) (e e' : Entries) → verdict (told_entry c s e) ≡ verdict (told_entry c s' e')
any_entry clear s s' e e' = refl
any_entry (raises k p f) s s' e e' = refl

verdict_is : (b : Book) (c : Call) → verdict (answer b c) ≡ verdict_for b.parties b.intervals b.stands (plain c)
verdict_is b (settle t i s) = refl
verdict_is b (restate t i s) = refl
verdict_is b (void t i) = refl
verdict_is b (balance p) = any_value (holds_or (among p b.parties) 39 0) _ (pos 0)
verdict_is b (look t i p) = any_entry (first (entry_checks b.parties b.intervals t i p)) _ false _ zeros

-- outside the book the first check decides
past_first : (q : Bool) (r r' : Finding) → (q ≡ true → r ≡ r') → both (holds_or q 31 0) r ≡ both (holds_or q 31 0) r'
past_first true r r' e = e refl
past_first false r r' e = refl

rest_of : List Finding → Finding
rest_of [] = clear
rest_of (c ∷ cs) = first cs

checks_agree : (n m : ℕ) (st st' w : Bool) (t i : ℕ) (loads : List ℕ) (lines : List Line) → (SlotOf m t i → st ≡ st') → first (checks n m st w t i loads lines) ≡ first (checks n m st' w t i loads lines)
unfolding rest_of
checks_agree n m st st' w t i loads lines e =
    past_first (among t 3 && among i m) (rest_of (checks n m st w t i loads lines)) (rest_of (checks n m st' w t i loads lines))
    (λ q. ap (λ x. rest_of (checks n m x w t i loads lines)) (e (slot_so m t i q)))

void_agree : (m : ℕ) (st st' : Bool) (t i : ℕ) → (SlotOf m t i → st ≡ st') → first (void_checks m st t i) ≡ first (void_checks m st' t i)
unfolding rest_of
void_agree m st st' t i e =
    past_first (among t 3 && among i m) (rest_of (void_checks m st t i)) (rest_of (void_checks m st' t i))
    (λ q. ap (λ x. rest_of (void_checks m x t i)) (e (slot_so m t i q)))

verdict_agree : (n m : ℕ) (st st' : ℕ → ℕ → Bool) (q : Plain) → ((t i : ℕ) → SlotOf m t i → st t i ≡ st' t i) → verdict_for n m st q ≡ verdict_for n m st' q
verdict_agree n m st st' (settles t i loads lines) e = ap (λ c. verdict (told c)) (checks_agree n m (st t i) (st' t i) false t i loads lines (e t i))
verdict_agree n m st st' (restates t i loads lines) e = ap (λ c. verdict (told c)) (checks_agree n m (st t i) (st' t i) true t i loads lines (e t i))
verdict_agree n m st st' (voids t i) e = ap (λ c. verdict (told c)) (void_agree m (st t i) (st' t i) t i (e t i))
verdict_agree n m st st' (asks p) e = refl
verdict_agree n m st st' (looks t i p) e = refl

some_bare : (o : Option Settlement) → is_some o ≡ is_some (bare o)
some_bare None = refl
some_bare (Some s) = refl

-- the verdicts of a whole list of calls, their rules apart
abbrev verdicts_for : ℕ → ℕ → List Plain → List Verdict
verdicts_for n m [] = []
verdicts_for n m (q ∷ qs) = verdict_for n m (λ t i. is_some (bare_standing qs (verdicts_for n m qs) t i)) q ∷ verdicts_for n m qs

verdicts_from : (n m : ℕ) (start : Book) → Fresh n m start → (met : List Met) (b : Book) → Leads start met b → verdicts met ≡ verdicts_for n m (plains met)
verdicts_from n m start f [] b r = refl
verdicts_from n m start f (x ∷ met) b r =
    let before = r.0 in
    let h = held n m met before (record { start = start; fresh = f; leads = r.1 }) in
    let rest = verdicts_from n m start f met before r.1 in
    let st : ℕ → ℕ → Bool = λ t i. is_some (bare_standing (plains met) (verdicts_for n m (plains met)) t i) in
    let said : verdict x.got ≡ verdict_for before.parties before.intervals before.stands (plain x.call) = ap verdict r.2.says ∙ verdict_is before x.call in
    let sized : verdict_for before.parties before.intervals before.stands (plain x.call) ≡ verdict_for n m before.stands (plain x.call) = rw (h.has_parties, h.has_intervals) in
    let agree = verdict_agree n m before.stands st (plain x.call) (λ t i k. h.stands t i k ∙ some_bare (standing met t i) ∙ ap is_some (bare_is met t i) ∙ ap (λ vs. is_some (bare_standing (plains met) vs t i)) rest) in
    ap (λ v. v ∷ verdicts met) (said ∙ sized ∙ agree) ∙ ap (λ vs. verdict_for n m st (plain x.call) ∷ vs) rest

pub verdicts_are : (n m : ℕ) (met : List Met) (b : Book) → Run n m met b → verdicts met ≡ verdicts_for n m (plains met)
verdicts_are n m met b r = verdicts_from n m r.start r.fresh met b r.leads

-- one slot under two rules
same_bare : (s s' : Settlement) → bare (Some s) ≡ bare (Some s') → (s.loads ≡ s'.loads) × (s.lines ≡ s'.lines)
same_bare s s' e = (ap loads_in e, ap lines_in e)
  where
    loads_in : Option Bare → List ℕ
    loads_in None = []
    loads_in (Some x) = x.loads

    lines_in : Option Bare → List Line
    lines_in None = []
    lines_in (Some x) = x.lines

module _ (n m t i : ℕ) (few : Among n 64) (p : ℕ) (a : Among p n) where
  charges_near : (s s' : Settlement) → Sound n m t i s → Sound n m t i s' → s.loads ≡ s'.loads → s.lines ≡ s'.lines → (q : Bool) → ltb 0 (all_load s) ≡ q → apart (charge_of s p) (charge_of s' p) ≤ 1
  charges_near s s' ok ok' el en true e =
      let l = ltb-true 0 (all_load s) e in
      let l' : 0 < all_load s' = subst (λ x. 0 < sum x) el l in
      let here = charge_near n m t i s ok few l p a in
      let there = charge_near n m t i s' ok' few l' p a in
      one_cent (all_load s) (load_of s p) (paid_out s) (charge_of s p) (charge_of s' p) here (rw (el, en) there)
  charges_near s s' ok ok' el en false e =
      let e' : ltb 0 (all_load s') ≡ false = subst (λ x. ltb 0 (sum x) ≡ false) el e in
      rw (e, e') (omega (arith, ints))

  slot_near : (o o' : Option Settlement) → IfSome o (Sound n m t i) → IfSome o' (Sound n m t i) → bare o ≡ bare o' → pos (apart (due p o) (due p o')) ≤ℤ one_if o
  slot_near None None ok ok' e = omega (arith, ints)
  slot_near None (Some s') ok ok' e = let z : ◌≡◌ {A = ℕ} 0 1 = cc in absurd (omega arith)
  slot_near (Some s) None ok ok' e = let z : ◌≡◌ {A = ℕ} 0 1 = cc in absurd (omega arith)
  slot_near (Some s) (Some s') ok ok' e =
      let same = same_bare s s' e in
      let c = charges_near s s' ok ok' same.0 same.1 (ltb 0 (all_load s)) refl in
      let l : source_lines s p ≡ source_lines s' p = ap (sum_for p) same.1 in
      omega (arith, ints, c, l)

pub alike : (n m : ℕ) (met : List Met) (b : Book) → Run n m met b → (met' : List Met) (b' : Book) → Run n m met' b' → plains met ≡ plains met' → Alike n m met b met' b'
alike n m met b r met' b' r' e =
    let h = held n m met b r in
    let h' = held n m met' b' r' in
    let same : verdicts met ≡ verdicts met' = verdicts_are n m met b r ∙ ap (verdicts_for n m) e ∙ sym (verdicts_are n m met' b' r') in
    record {
      same_verdicts = same;
      near = λ p a.
          let o = each_owed n m met b h p a in
          let o' = each_owed n m met' b' h' p a in
          rw (o, o') (slots_near m (λ t i. due p (standing met t i)) (λ t i. due p (standing met' t i)) (λ t i. one_if (standing met t i)) (λ t i k.
          slot_near n m t i h.few p a (standing met t i) (standing met' t i) (h.sound t i) (h'.sound t i)
          (bare_is met t i ∙ ap (λ qs. bare_standing qs (verdicts met) t i) e ∙ ap (λ vs. bare_standing (plains met') vs t i) same ∙ sym (bare_is met' t i))));
    }
