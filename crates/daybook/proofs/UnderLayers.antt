-- A source's lines under the day's layers.
use Rattle.std.proofs.Common.{◌≡◌, ℕ, List, ◌∷◌, slice_index, Ok, Err, Result, refl, subst}
use Rattle.book.specs.declared.ledger.Book.{Book}
use Rattle.book.specs.Books.{Moves}
use Rattle.charges.specs.declared.table.Table.{Table}
use Rattle.charges.specs.declared.period.State.{State}
use Rattle.charges.specs.Adjustment.{adjusted_lines}
use Rattle.charges.specs.Denial.{denied_lines}
use Rattle.charges.specs.Layers.{resting}
use Rattle.charges.specs.Lines.{Line, line_at}
use Rattle.charges.specs.Period.{period_lines}
use Rattle.charges.specs.Settings.{held_by}
use Rattle.daybook.specs.declared.tables.Layers.{Layers}
use Rattle.day.specs.declared.records.Settlement.{Settlement}
use Rattle.daybook.specs.declared.ledger.Mode.{Mode}
use Rattle.daybook.specs.declared.notdone.NotDone.{NotDone}
use Rattle.daybook.specs.declared.notdone.NotDone.TheVariants.{Malformed, Refused, Memory}
use Rattle.daybook.specs.Calls.{under_layers, basis_under, asked_over, EnergyTold, NotTaken, Posts}
use Rattle.law.specs.Steps.{accepted}

-- layers with the day's settings make of the same lines the same
pub under : (layers : Layers) (state : State) (denial adjustment : Table) (ls ks : List Line) → state ≡ layers.state → denial ≡ layers.denial.table → adjustment ≡ layers.adjustment.table → ls ≡ ks
    → period_lines state (denied_lines (held_by denial) (adjusted_lines (held_by adjustment) ls)) ≡ under_layers layers ks
under layers state denial adjustment ls ks e1 e2 e3 e4 = rw (e1, e2, e3, e4) refl

-- and of what they rest on
pub under_basis : (layers : Layers) (adjustment : Table) (ls ks : List Line) (bs cs : List ℕ) → adjustment ≡ layers.adjustment.table → ls ≡ ks → bs ≡ cs
    → ◌≡◌ {A = ℕ → ℕ} (λ n. resting (line_at (adjusted_lines (held_by adjustment) ls) n) (slice_index (0 ∷ bs) n)) (basis_under layers ks cs)
under_basis layers adjustment ls ks bs cs e1 e2 e3 = rw (e1, e2, e3) refl

-- an energy of the same lines and bases is told the same, also where memory may be short
pub told_of_same : (Short : Type 0) (ls ks : List Line) (f g : ℕ → ℕ) (r : Result ℕ NotDone) → ls ≡ ks → f ≡ g → EnergyTold ⊥ ls f r → EnergyTold Short ks g r
told_of_same Short ls ks f g (Ok kwh) e1 e2 h = (rw e1 at h.0, rw (e1, e2) at h.1)
told_of_same Short ls ks f g (Err (Refused r)) e1 e2 h = (rw e1 at h.0, h.1)
told_of_same Short ls ks f g (Err (Malformed k)) e1 e2 h = h
told_of_same Short ls ks f g (Err Memory) e1 e2 h = absurd h

-- a call over the same lines is posted the same, also where memory may be short
pub posted_of_same : (Short : Type 0) (mode : Mode) (settlement : Settlement) (ls ks : List Line) (b c : Book) (r : Result ℕ NotDone) → ls ≡ ks → Posts ⊥ b (asked_over mode settlement ls) r c → Posts Short b (asked_over mode settlement ks) r c
posted_of_same Short mode settlement ls ks b c (Ok n) e h = subst (λ ls. Moves b (asked_over mode settlement ls) accepted c) e h
posted_of_same Short mode settlement ls ks b c (Err (Refused r)) e h = subst (λ ls. NotTaken (Short × (c ≡ b)) b (asked_over mode settlement ls) (Refused r) c) e h
posted_of_same Short mode settlement ls ks b c (Err (Malformed k)) e h = h
posted_of_same Short mode settlement ls ks b c (Err Memory) e h = absurd h.0
