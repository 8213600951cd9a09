-- The firm's fees: what is settled, and what the law says of the two balances.
use Rattle.std.proofs.Common.{◌≡◌, ℕ, List, [], ◌∷◌, ℤ, pos, Ok, Err, Result, sym, refl, ap, subst, inr, arith}
use Rattle.std.proofs.lemmas.Int.{ints}
use Rattle.charges.specs.declared.period.State.{State}
use Rattle.charges.specs.declared.period.State.TheVariants.{Open}
use Rattle.charges.specs.Rows.{lines_by}
use Rattle.charges.specs.Settings.{Held, nothing}
use Rattle.charges.specs.Denial.{denied_lines}
use Rattle.charges.specs.Period.{period_lines}
use Rattle.law.specs.Settlements as words
use Rattle.law.specs.Settlements.{Rule, Settlement, over}
use Rattle.law.specs.Steps.{Answer, accepted, refused, settle, answer, balance, Step}
use Rattle.law.specs.Runs.{Met, Opened, balance_told}
use Rattle.assess.specs.declared.refusals.Refusal.{Refusal}
use Rattle.assess.specs.Refusals.{number_of, place_of, carries}
use Rattle.book.specs.declared.ledger.Book.{Book}
use Rattle.book.specs.Books.{model, brought}
use Rattle.outside.specs.declared.standby.Standby.{Standby}
use Rattle.outside.specs.Standby.{fee_line}
use Rattle.outside.specs.Fees.{fees, FeesMet, Asked, FeesSettled}

-- layers that change nothing
pub same_fees : (loads : List ℕ) (state : State) (held : Held) (below standby : Standby) (rule : Rule) → state ≡ Open → held ≡ nothing → below ≡ standby → brought loads (period_lines state (denied_lines held (lines_by (fee_line below) below.count))) rule ≡ fees loads standby rule
same_fees loads state held below standby rule open_now none fee = rw (open_now, none, fee) refl

module _ (start : words.Book) (after : Book) (s : Settlement) (o : Opened 2 1 start) where
  -- the book met that settle
  fees_met : (a : Answer) → Step start (settle 3 1 s) a (model after) → FeesMet s a after
  fees_met a step = record { start = start; fresh = o.fresh; leads = (start, refl, step) }

  -- refused by the settle
  pub fees_refused : (before : Book) (r : Result (ℤ × ℤ) Refusal) (e : Refusal) → r ≡ Err e → Step start (settle 3 1 s) (refused (number_of e) (place_of e) (carries e)) (model after) → FeesSettled s before r after
  fees_refused before r e is step = subst (λ x. FeesSettled s before x after) (sym is) (inr (fees_met (refused (number_of e) (place_of e) (carries e)) step))

  -- the two balances
  pub fees_settled : (before : Book) (r : Result (ℤ × ℤ) Refusal) → Step start (settle 3 1 s) accepted (model after) → Asked (model after) r → FeesSettled s before r after
  fees_settled before (Ok v) step a =
      let met : List Met = record { call = settle 3 1 s; got = accepted } ∷ [] in
      let z : over 2 (λ p. balance_told (answer (model after) (balance p))) ≡ pos 0 = (o.law met (model after) (start, refl, step)).balanced.zero_sum in
      (fees_met accepted step, a, omega (arith, ints, z, ap balance_told a.0, ap balance_told a.1))
  fees_settled before (Err e) step few = absurd (let same = step.left.parties_stay in let has = o.fresh.has_parties in omega arith)
