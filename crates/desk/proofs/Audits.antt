-- What the law says of the balances of a book of three parties, and what a day's work settles.
use Rattle.std.proofs.Common.{◌≡◌, ℕ, true, false, leb, List, ℤ, pos, ◌+ℤ◌, nat_abs, Some, Ok, Err, Result, MatchResult, IfOk, map, ap, ◌∙◌, refl, inr, ⊎_elim, arith}
use Rattle.std.proofs.lemmas.Int.{ints}
use Rattle.std.proofs.lemmas.Bool.{le-leb, lt-leb, cases_lt}
use Rattle.charges.specs.declared.listed.ListedRow.{ListedRow}
use Rattle.charges.specs.declared.table.Table.{Table}
use Rattle.charges.specs.declared.setting.SettingRefusal.{SettingRefusal}
use Rattle.charges.specs.declared.period.State.{State}
use Rattle.charges.specs.declared.period.State.TheVariants.{Open}
use Rattle.charges.specs.Rows.{numbered}
use Rattle.charges.specs.Listed.{listed_line}
use Rattle.charges.specs.Adjustment.{adjusted_lines}
use Rattle.charges.specs.Period.{period_lines}
use Rattle.charges.specs.Settings.{Held, held_by, size_of, nothing, changed, WasSet}
use Rattle.law.specs.Settlements.{Book, over}
use Rattle.law.specs.Steps.{answer, balance, balance_is}
use Rattle.assess.specs.declared.refusals.Refusal.{Refusal}
use Rattle.desk.specs.Asked.{Asked}
use Rattle.desk.specs.Days.{figures, day_lines, day_calls, DayDone, AddUpToZero}
use Rattle.law.specs.Runs.{Opened, Leads, Met, balance_told}

pub three_zero : (m : ℕ) (start b : Book) (met : List Met) → Opened 3 m start → Leads start met b → (u v w : ℤ) → balance_is u ≡ answer b (balance 1) → balance_is v ≡ answer b (balance 2) → balance_is w ≡ answer b (balance 3) → (u +ℤ v) +ℤ w ≡ pos 0
three_zero m start b met o r u v w e f g =
    let z : over 3 (λ p. balance_told (answer b (balance p))) ≡ pos 0 = (o.law met b r).balanced.zero_sum in
    let e' = ap balance_told e in
    let f' = ap balance_told f in
    let g' = ap balance_told g in
    omega (arith, ints, z, e', f', g')

pub asked_zero : (m : ℕ) (start b : Book) (met : List Met) → Opened 3 m start → Leads start met b → (r : Result (ℤ × ℤ × ℤ) Refusal) → Asked b r → IfOk r AddUpToZero
asked_zero m start b met o l (Ok v) a = three_zero m start b met o l v.0 v.1 v.2 a.0 a.1 a.2
asked_zero m start b met o l (Err e) a = tt

-- a book that was opened with three parties answers all three balances
pub asked_all : (m : ℕ) (start b : Book) (met : List Met) → Opened 3 m start → Leads start met b → (e : Refusal) → Asked b (Err e) → ⊥
asked_all m start b met o l e few =
    let last = (o.law met b l).balanced.each 3 (omega arith, omega arith) in
    let q : leb 3 b.parties ≡ false = lt-leb 3 b.parties few in
    let no = rw q at last in
    let z : ◌≡◌ {A = ℕ} 0 1 = cc no in
    omega arith

-- the lines of the pile
pub pile_lines : (state : State) (held : Held) (listed rows : List ListedRow) (figure : ℤ) → state ≡ Open → held ≡ figures figure → listed ≡ rows → period_lines state (adjusted_lines held (numbered listed_line 1 listed)) ≡ day_lines rows figure
pile_lines state held listed rows figure open_now held_now rows_now = rw (open_now, held_now, rows_now) refl

-- what a day's work leaves and answers
pub day_done : (loads : List ℕ) (rows : List ListedRow) (figure : ℤ) (start b : Book) (met : List Met) → Opened 3 4 start → Leads start met b → map (λ m. m.call) met ≡ day_calls loads (day_lines rows figure) → (r : Result (ℤ × ℤ × ℤ) Refusal) → Asked b r → (Refused : Refusal → Type 0) → MatchResult r (DayDone loads rows figure b) Refused
day_done loads rows figure start b met o l e (Ok v) a Refused = (record { met = met; run = record { start = start; fresh = o.fresh; leads = l }; those = e }, a)
day_done loads rows figure start b met o l e (Err x) a Refused = absurd (asked_all 4 start b met o l x a)

-- what the adjustment holds once a figure is set for resource 7
pub set_figures : (t u : Table) (figure : ℤ) (r : Result (Unit {0}) SettingRefusal) → held_by t ≡ nothing → size_of t ≡ 0 → WasSet t u 7 figure r → held_by u ≡ figures figure
set_figures t u figure (Ok x) e s w = let q : leb (nat_abs figure) 1000000000 ≡ true = le-leb (nat_abs figure) 1000000000 w.0.0.2 in rw q (w.1.map ∙ ap (λ held. changed held 7 (Some figure)) e)
set_figures t u figure (Err x) e s w =
    let same : held_by u ≡ nothing = ap held_by w.1 ∙ e in
    ⊎_elim
    (λ out. ⊎_elim
    (λ lt. let q : leb (nat_abs figure) 1000000000 ≡ false = lt-leb (nat_abs figure) 1000000000 lt in rw q same)
    (λ le. absurd (out.2 (omega arith, omega arith, le)))
    (cases_lt 1000000000 (nat_abs figure)))
    (λ rest. ⊎_elim (λ full. absurd (full.2 (inr (omega arith)))) (λ none. absurd none.1) rest.1)
    w.0

-- of a day's work on a book that is gone
pub some_day : (loads : List ℕ) (rows : List ListedRow) (figure : ℤ) (b : Book) (r : Result (ℤ × ℤ × ℤ) Refusal) (Refused : Refusal → Type 0) → MatchResult r (DayDone loads rows figure b) Refused → IfOk r (λ v. (after : Book) × DayDone loads rows figure after v)
some_day loads rows figure b (Ok v) Refused d = (b, d)
some_day loads rows figure b (Err e) Refused d = tt
