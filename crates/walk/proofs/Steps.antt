-- A walk over a source's lines: what holds before line k + 1, and one line on.
use Rattle.std.proofs.Common.{◌≡◌, ℕ, zero, suc, ◌+◌, ◌-◌, ◌*◌, ◌<◌, ◌≤◌, true, ◌&&◌, eqb, ltb, leb, ◌≢◌, List, [], ◌∷◌, length, get_or, take, drop, set, ℤ, pos, negsuc, ◌+ℤ◌, nat_abs, None, Ok, Err, Option, sym, refl, ap, ◌∙◌, subst, inl, inr, ⊎_elim, add-one, arith, length-set, take_all, w64, SFits, to_z, of_z, below_more}
use Rattle.std.proofs.lemmas.List.FromFn.{length-map-range_with_len, get_or-map-range_with_len}
use Rattle.std.proofs.lemmas.List.{drop_more, drop_all, get_or-set_same, get_or-set_other, ext_get_or}
use Rattle.std.proofs.lemmas.Int.{ints, to_z-of_z}
use Rattle.std.proofs.lemmas.Bool.{and_parts, eq-eqb, ne_eqb, cases_eq, cases_Bool, leb-true, ltb-true, le-ltb}
use Rattle.numbers.specs.Checks.{Each}
use Rattle.numbers.specs.Sums.{signed_sum}
use Rattle.numbers.proofs.Sums.{signed_sum_more}
use Rattle.charges.specs.Lines.{Entry, Line, line_at, no_line, Sound}
use Rattle.charges.specs.SourceLaws.{line_at_next, entry_ranged}
use Rattle.walk.specs.declared.flaw.Flaw.{Flaw}
use Rattle.walk.specs.declared.flaw.Flaw.TheVariants.{Unfit}
use Rattle.walk.specs.Flaws.{fits, fitting, first_flaw, answering, walked, resource_of, Fitting, Fit, AllFit}
use Rattle.walk.specs.Totals.{amount_of, amount_for, total_of, sum_for, party_sums}

-- n parties; k lines are behind, the last of them of the resource before
pub record Walk (n : ℕ) (ls : List Line) (k before : ℕ) (total : ℤ) (paid : List ℤ) : Type 0 where
  pub room : length paid ≡ n
  pub ahead : first_flaw n 0 1 ls ≡ first_flaw n before (k + 1) (drop k ls)
  pub fit : Each (Fit n ls) k
  pub last : before ≡ resource_of (line_at ls k)
  pub summed : total ≡ total_of (take k ls)
  pub parts : (p : ℕ) → 1 ≤ p → p ≤ n → get_or paid (p - 1) (pos 0) ≡ sum_for p (take k ls)
  pub bound : nat_abs total ≤ k * 3000000000

none_yet : (f : Line → ℤ) (ls : List Line) → signed_sum f (take 0 ls) ≡ pos 0
none_yet f [] = refl
none_yet f (l ∷ ls) = refl

-- the next line is the head of what is left
next_line : (ls : List Line) (k : ℕ) (l : Line) → k < length ls → l ≡ line_at ls (k + 1) → drop k ls ≡ l ∷ drop (k + 1) ls
next_line ls k l h e = drop_more ls k (no_line (k + 1)) h ∙ ap (λ x. x ∷ drop (k + 1) ls) (sym (e ∙ line_at_next ls k))

-- a sum with one line more
sum_next : (f : Line → ℤ) (ls : List Line) (k : ℕ) (l : Line) → k < length ls → l ≡ line_at ls (k + 1) → signed_sum f (take (k + 1) ls) ≡ signed_sum f (take k ls) +ℤ f l
sum_next f ls k l h e = signed_sum_more f ls k (no_line (k + 1)) h ∙ ap (λ x. signed_sum f (take k ls) +ℤ f x) (sym (e ∙ line_at_next ls k))

-- what the test of an entry tells
fits_tells : (n before : ℕ) (e : Entry) → fits n before e ≡ true → (1 ≤ e.1) × (e.1 ≤ n) × (before < e.0)
fits_tells n before e t =
    let a = and_parts (leb 1 e.1 && leb e.1 n) (ltb before e.0) t in
    let b = and_parts (leb 1 e.1) (leb e.1 n) a.0 in
    (leb-true 1 e.1 b.0, leb-true e.1 n b.1, ltb-true before e.0 a.1)

-- the next line's answer: an entry that fits, or a flaw of that line
entry_line : (n before k : ℕ) (l : Line) (e : Entry) → Ok e ≡ fitting n before k l → (l ≡ Ok e) × (fits n before e ≡ true)
entry_line n before k (Ok x) e h = ⊎_elim
    (λ t. let g : Ok e ≡ Ok x = h ∙ rw t in let same : x ≡ e = cc in (ap Ok same, subst (λ y. fits n before y ≡ true) same t))
    (λ t. absurd (let g : Ok e ≡ Err (Unfit k) = h ∙ rw t in let z : ◌≡◌ {A = ℕ} 0 1 = cc in omega arith))
    (cases_Bool (fits n before x))
entry_line n before k (Err f) e h = absurd (let z : ◌≡◌ {A = ℕ} 0 1 = cc in omega arith)

entry_known : {ls : List Line} → Sound ls → (n before k : ℕ) (e : Entry) → Ok e ≡ fitting n before k (line_at ls k) → (Ok e ≡ line_at ls k) × (fits n before e ≡ true) × (nat_abs e.2 ≤ 3000000000)
entry_known {ls} s n before k e h =
    let is = entry_line n before k (line_at ls k) e h in
    (sym is.0, is.1, (entry_ranged s k e (sym is.0)).2)

-- what the flaw of the lines makes the answer
walked_by : (n : ℕ) (ls : List Line) (o : Option Flaw) → length ls ≤ 256 → first_flaw n 0 1 ls ≡ o → walked n ls ≡ answering o (total_of ls)
walked_by n ls o few e = rw (le-ltb 256 (length ls) few) (ap (λ x. answering x (total_of ls)) e)

cut : {n : ℕ} {ls : List Line} {k before : ℕ} {total : ℤ} {paid : List ℤ} → Walk n ls k before total paid → k < length ls → (l : Line) → l ≡ line_at ls (k + 1) → first_flaw n 0 1 ls ≡ first_flaw n before (k + 1) (l ∷ drop (k + 1) ls)
cut {n} {ls} {k} {before} w lt l e = w.ahead ∙ ap (first_flaw n before (k + 1)) (next_line ls k l lt e)

-- a party's sum of the first lines is small
for_small : (p : ℕ) (l : Line) → nat_abs (amount_of l) ≤ 3000000000 → nat_abs (amount_for p l) ≤ 3000000000
for_small p (Err f) h = h
for_small p (Ok e) h = elim (cases_Bool (eqb e.1 p)) [ inl t ↦ rw t h | inr t ↦ rw t (omega (arith, ints)) ]

line_small : (ls : List Line) → Sound ls → (k : ℕ) (l : Line) → l ≡ line_at ls (k + 1) → nat_abs (amount_of l) ≤ 3000000000
line_small ls s k (Ok e) at = (entry_ranged s (k + 1) e at).2
line_small ls s k (Err f) at = omega (arith, ints)

part_small : (p k : ℕ) (ls : List Line) → Sound ls → k ≤ length ls → nat_abs (sum_for p (take k ls)) ≤ k * 3000000000
part_small p zero ls s h = let z = none_yet (amount_for p) ls in omega (arith, ints)
part_small p (suc k) ls s h =
    let rest = part_small p k ls s (omega arith) in
    let next = sum_next (amount_for p) ls k (line_at ls (k + 1)) (omega arith) refl in
    let one = for_small p (line_at ls (k + 1)) (line_small ls s k (line_at ls (k + 1)) refl) in
    rw (← add-one k) (omega (arith, ints, rest, next, one))

small_fits : (z : ℤ) → nat_abs z ≤ 1000000000000 → SFits w64 z
small_fits (pos n) h = record { sfits = omega arith }
small_fits (negsuc n) h = record { sfits = omega arith }

abs_add : (a b : ℤ) (x y : ℕ) → nat_abs a ≤ x → nat_abs b ≤ y → nat_abs (a +ℤ b) ≤ x + y
abs_add a b x y h k = omega (arith, ints)

-- one fit line on
walk_step : {n : ℕ} {ls : List Line} {k before : ℕ} {total : ℤ} {paid : List ℤ} → Walk n ls k before total paid → k < length ls → (e : Entry) → Ok e ≡ line_at ls (k + 1) → fits n before e ≡ true → nat_abs e.2 ≤ 3000000000
    → Walk n ls (k + 1) e.0 (total +ℤ e.2) (set paid (e.1 - 1) (get_or paid (e.1 - 1) (pos 0) +ℤ e.2))
walk_step {n} {ls} {k} {before} {total} {paid} w lt e at fit small =
    let who = fits_tells n before e fit in
    let spot = e.1 - 1 in
    let v = get_or paid spot (pos 0) +ℤ e.2 in
    let inside : spot < length paid = omega (arith, w.room, who) in
    record {
      room = length-set paid spot v ∙ w.room;
      ahead = cut w lt (Ok e) at ∙ rw fit;
      fit = below_more _ _ w.fit (subst (λ b. Fitting n b (line_at ls (k + 1))) w.last (subst (Fitting n before) at who));
      last = ap resource_of at;
      summed = ap (λ z. z +ℤ e.2) w.summed ∙ sym (sum_next amount_of ls k (Ok e) lt at);
      parts = λ p low high. elim (cases_eq e.1 p) [
        | inl same ↦
            let t = eq-eqb e.1 p same in
            let here : get_or (set paid spot v) (p - 1) (pos 0) ≡ v = subst (λ q. get_or (set paid spot v) (q - 1) (pos 0) ≡ v) same (get_or-set_same paid spot v (pos 0) inside) in
            let was : get_or paid spot (pos 0) ≡ sum_for p (take k ls) = ap (λ q. get_or paid (q - 1) (pos 0)) same ∙ w.parts p low high in
            here ∙ ap (λ z. z +ℤ e.2) was ∙ sym (sum_next (amount_for p) ls k (Ok e) lt at ∙ rw t)
        | inr other ↦
            let t = ne_eqb e.1 p other in
            let ne : p - 1 ≢ spot = omega (arith, who) in
            let next : sum_for p (take (k + 1) ls) ≡ sum_for p (take k ls) +ℤ pos 0 = sum_next (amount_for p) ls k (Ok e) lt at ∙ rw t in
            let old = w.parts p low high in
            get_or-set_other paid spot (p - 1) v (pos 0) ne ∙ omega (arith, ints, next, old)
      ];
      bound = omega (arith, abs_add total e.2 (k * 3000000000) 3000000000 w.bound small);
    }

-- at the end every line was fit, and the sums are whole
pub walk_end : {n : ℕ} {ls : List Line} {k before : ℕ} {total : ℤ} {paid : List ℤ} → Walk n ls k before total paid → k ≡ length ls → length ls ≤ 256 → (Ok total ≡ walked n ls) × AllFit n ls × (paid ≡ party_sums n ls)
walk_end {n} {ls} {k} {before} {total} {paid} w all few =
    let past : length ls ≤ k = omega arith in
    let none : first_flaw n 0 1 ls ≡ None = w.ahead ∙ ap (first_flaw n before (k + 1)) (drop_all k ls past) in
    let whole : total ≡ total_of ls = w.summed ∙ ap total_of (take_all _ _ past) in (
      ap Ok whole ∙ sym (walked_by n ls None few none),
      (few, λ i h. w.fit i (omega arith)),
      ext_get_or (pos 0) paid (party_sums n ls) (w.room ∙ sym (length-map-range_with_len (λ p. sum_for p ls) 1 n)) (λ i h.
          let party : i + 1 - 1 ≡ i = omega arith in
          let mine = w.parts (i + 1) (omega arith) (omega (arith, w.room)) in
          ap (λ j. get_or paid j (pos 0)) (sym party) ∙ mine ∙ ap (sum_for (i + 1)) (take_all _ _ past) ∙ sym (get_or-map-range_with_len (λ p. sum_for p ls) 1 n i (i + 1) (pos 0) (omega (arith, w.room)) (omega arith))),
    )

-- line n, as it was answered and added up
module _ {m n before : ℕ} {ls : List Line} {t : ℤ} {paid : List ℤ} (s : Sound ls) (few : length ls ≤ 256) (w : Walk m ls (n - 1) before t paid) (low : 1 ≤ n) (high : n ≤ length ls) where
  counted : n - 1 + 1 ≡ n
  counted = omega arith

  module _ (r p at : ℕ) (a : ℤ) (ok : Ok (r, p, a) ≡ fitting m before n (line_at ls n)) (whole : SFits w64 a) (same : at ≡ p) where
    known : (Ok (r, p, a) ≡ line_at ls n) × (fits m before (r, p, a) ≡ true) × (nat_abs a ≤ 3000000000)
    known = entry_known s m before n (r, p, a) ok

    party_near : (1 ≤ p) × (p ≤ m)
    party_near = let h = fits_tells m before (r, p, a) known.1 in (h.0, h.1)

    part_whole : nat_abs (get_or paid (at - 1) (pos 0)) ≤ 1000000000000
    part_whole =
        let part = part_small p (n - 1) ls s (omega arith) in
        let is = w.parts p party_near.0 party_near.1 in
        rw same (rw is (omega (arith, part)))

    kept : to_z w64 (of_z w64 (get_or paid (at - 1) (pos 0))) +ℤ to_z w64 (of_z w64 a) ≡ get_or paid (at - 1) (pos 0) +ℤ a
    kept = let h = small_fits (get_or paid (at - 1) (pos 0)) part_whole in simp (to_z-of_z)

    pub part_near : SFits w64 (to_z w64 (of_z w64 (get_or paid (at - 1) (pos 0))) +ℤ to_z w64 (of_z w64 a))
    part_near = rw kept (let h = part_whole in let k = known.2 in omega (arith, ints))

    pub total_near : SFits w64 (t +ℤ to_z w64 (of_z w64 a))
    total_near = rw (to_z-of_z w64 a whole) (small_fits (t +ℤ a) (omega (arith, abs_add t a ((n - 1) * 3000000000) 3000000000 w.bound known.2)))

    pub line_on : (j : ℕ) → j ≡ n → Walk m ls j r (to_z w64 (of_z w64 (t +ℤ to_z w64 (of_z w64 a)))) (set paid (at - 1) (to_z w64 (of_z w64 (to_z w64 (of_z w64 (get_or paid (at - 1) (pos 0))) +ℤ to_z w64 (of_z w64 a)))))
    line_on j e =
        let total = to_z-of_z w64 _ total_near ∙ ap (λ z. t +ℤ z) (to_z-of_z w64 a whole) in
        let part = to_z-of_z w64 _ part_near ∙ kept in
        let on = walk_step w (omega arith) (r, p, a) (subst (λ i. Ok (r, p, a) ≡ line_at ls i) (sym counted) known.0) known.1 known.2 in
        rw (e, ← counted, total, part, same) on

    -- and after the last line
    pub last_line : n ≡ length ls → let total = to_z w64 (of_z w64 (t +ℤ to_z w64 (of_z w64 a))) in let sums = set paid (at - 1) (to_z w64 (of_z w64 (to_z w64 (of_z w64 (get_or paid (at - 1) (pos 0))) +ℤ to_z w64 (of_z w64 a)))) in (Ok total ≡ walked m ls) × AllFit m ls × (sums ≡ party_sums m ls)
    last_line e = walk_end (line_on n refl) e few
