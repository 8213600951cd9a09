-- What the table of refusals lets through.
use Rattle.std.proofs.Common.{◌≡◌, ℕ, suc, ◌+◌, ◌≤◌, Bool, true, false, cond, ◌&&◌, eqb, ltb, leb, List, [], ◌∷◌, length, ℤ, pos, ◌+ℤ◌, nat_abs, Some, None, Ok, Err, sum, Option, sym, refl, arith}
use Rattle.std.specs.List.{AllByRecursion}
use Rattle.std.proofs.lemmas.Int.{ints}
use Rattle.std.proofs.lemmas.Bool.{and_parts, leb-true, ltb-false, eqb-true, le-ltb, le-leb, and_from}
use Rattle.charges.specs.Lines.{Line}
use Rattle.numbers.proofs.Sums.{signed_sum_cons}
use Rattle.walk.specs.declared.flaw.Flaw.{Flaw}
use Rattle.walk.specs.declared.flaw.Flaw.TheVariants.{ManyLines, Unfit}
use Rattle.walk.specs.Flaws.{fits, first_flaw, flaw_of}
use Rattle.walk.specs.Totals.{amount_of, amount_for, total_of, sum_for}
use Rattle.law.specs.Settlements.{over, Among, SlotOf, Settlement, Lawful}
use Rattle.law.specs.Steps.{Finding, clear, raises, holds_or, both, among, loads_from, flaw_found, first, checks, void_checks, told, accepted}
use Rattle.law.proofs.Totals.{over_same, over_add, over_none, over_pick}

pub both_so : (c d : Finding) → both c d ≡ clear → (c ≡ clear) × (d ≡ clear)
both_so clear d e = (refl, e)
both_so (raises n p f) d e = let z : ◌≡◌ {A = ℕ} 0 1 = cc in absurd (omega arith)

pub first_so : (cs : List Finding) → first cs ≡ clear → AllByRecursion (λ c. c ≡ clear) cs
first_so [] e = tt
first_so (c ∷ cs) e = let h = both_so c (first cs) e in (h.0, first_so cs h.1)

pub holds_so : (b : Bool) (n p : ℕ) → holds_or b n p ≡ clear → b ≡ true
holds_so true n p e = refl
holds_so false n p e = let z : ◌≡◌ {A = ℕ} 0 1 = cc in absurd (omega arith)

pub told_so : (c : Finding) → accepted ≡ told c → c ≡ clear
told_so clear e = refl
told_so (raises n p f) e = let z : ◌≡◌ {A = ℕ} 0 1 = cc in absurd (omega arith)

pub among_so : (k n : ℕ) → among k n ≡ true → Among k n
among_so k n e = let h = and_parts (leb 1 k) (leb k n) e in (leb-true 1 k h.0, leb-true k n h.1)

pub so_among : (k n : ℕ) → Among k n → among k n ≡ true
so_among k n h = and_from (leb 1 k) (leb k n) (le-leb 1 k h.0) (le-leb k n h.1)

pub slot_so : (m t i : ℕ) → (among t 3 && among i m) ≡ true → SlotOf m t i
slot_so m t i e = let h = and_parts (among t 3) (among i m) e in (among_so t 3 h.0, among_so i m h.1)

pub loads_so : (p : ℕ) (loads : List ℕ) → loads_from p loads ≡ clear → AllByRecursion (λ l. l ≤ 20000000) loads
loads_so p [] e = tt
loads_so p (l ∷ loads) e =
    let h = both_so (holds_or (leb l 20000000) 32 p) (loads_from (suc p) loads) e in
    (leb-true l 20000000 (holds_so (leb l 20000000) 32 p h.0), loads_so (suc p) loads h.1)

-- a walk that finds nothing
flaw_so : (t i : ℕ) (o : Option Flaw) → flaw_found t i o ≡ clear → o ≡ None
flaw_so t i None e = refl
flaw_so t i (Some flaw) e = let z : ◌≡◌ {A = ℕ} 0 1 = cc in absurd (omega arith)

walk_so : (n : ℕ) (lines : List Line) → flaw_of n lines ≡ None → (length lines ≤ 256) × (first_flaw n 0 1 lines ≡ None)
walk_so n lines e = parts (ltb 256 (length lines)) (first_flaw n 0 1 lines) refl e
  where
    parts : (b : Bool) (o : Option Flaw) → b ≡ ltb 256 (length lines) → cond b (Some ManyLines) o ≡ None → (length lines ≤ 256) × (o ≡ None)
    parts true o f e = let z : ◌≡◌ {A = ℕ} 0 1 = cc in absurd (omega arith)
    parts false o f e = (ltb-false 256 (length lines) (sym f), e)

-- a line that fits
fits_so : (b : Bool) (o : Option Flaw) (n : ℕ) → cond b o (Some (Unfit n)) ≡ None → (b ≡ true) × (o ≡ None)
fits_so true o n e = (refl, e)
fits_so false o n e = let z : ◌≡◌ {A = ℕ} 0 1 = cc in absurd (omega arith)

-- every amount goes to one of the parties
pub lines_add_up : (n last k : ℕ) (lines : List Line) → first_flaw n last k lines ≡ None → over n (λ p. sum_for p lines) ≡ total_of lines
lines_add_up n last k [] e = over_none n (λ p. pos 0) (λ p h. refl)
lines_add_up n last k (Err f ∷ lines) e = let z : ◌≡◌ {A = ℕ} 0 1 = cc in absurd (omega arith)
lines_add_up n last k (Ok x ∷ lines) e =
    let h = fits_so (fits n last x) (first_flaw n x.0 (k + 1) lines) k e in
    let party = among_so x.1 n (and_parts (among x.1 n) (ltb last x.0) h.0).0 in
    let rest = lines_add_up n x.0 (k + 1) lines h.1 in
    let parts = over_same n (λ p. sum_for p (Ok x ∷ lines)) (λ p. cond (eqb x.1 p) x.2 (pos 0) +ℤ sum_for p lines) (λ p _. signed_sum_cons (amount_for p) (Ok x) lines) in
    let add = over_add n (λ p. cond (eqb x.1 p) x.2 (pos 0)) (λ p. sum_for p lines) in
    let one = over_pick n x.1 x.2 party in
    let whole = signed_sum_cons amount_of (Ok x) lines in
    omega (arith, ints, rest, parts, add, one, whole)

-- What an accepted settle or restate brought.
pub record Sound (n m t i : ℕ) (s : Settlement) : Type 0 where
  pub slot : SlotOf m t i
  pub one_each : length s.loads ≡ n
  pub small : AllByRecursion (λ l. l ≤ 20000000) s.loads
  pub to_parties : first_flaw n 0 1 s.lines ≡ None
  pub within : nat_abs (total_of s.lines) ≤ 5000000000
  pub lawful : Lawful s.rule
  pub covered : sum s.loads ≡ 0 → total_of s.lines ≡ pos 0

covered_so : (l : ℕ) (z : ℤ) → cond (ltb 0 l) true (eqb (nat_abs z) 0) ≡ true → l ≡ 0 → z ≡ pos 0
covered_so l z e none =
    let empty : ltb 0 l ≡ false = le-ltb 0 l (omega arith) in
    let f : eqb (nat_abs z) 0 ≡ true = rw empty at e in
    let g = eqb-true (nat_abs z) 0 f in
    omega (arith, ints, g)

pub checks_so : (n m : ℕ) (st w : Bool) (t i : ℕ) (s : Settlement) → Lawful s.rule → first (checks n m st w t i s.loads s.lines) ≡ clear → Sound n m t i s
checks_so n m st w t i s law e =
    let h = first_so (checks n m st w t i s.loads s.lines) e in
    record {
      slot = slot_so m t i (holds_so _ 31 0 h.0);
      one_each = eqb-true _ _ (holds_so _ 32 0 h.1.0);
      small = loads_so 1 s.loads h.1.1.0;
      to_parties = (walk_so n s.lines (flaw_so t i (flaw_of n s.lines) h.1.1.1.1.0)).1;
      within = leb-true _ _ (holds_so _ 37 0 h.1.1.1.1.1.0);
      lawful = law;
      covered = covered_so (sum s.loads) (total_of s.lines) (holds_so _ 38 0 h.1.1.1.1.1.1.0);
    }

pub void_so : (m : ℕ) (st : Bool) (t i : ℕ) → first (void_checks m st t i) ≡ clear → SlotOf m t i
void_so m st t i e = slot_so m t i (holds_so _ 31 0 (first_so (void_checks m st t i) e).0)
