-- The line of an emergency row keeps within the limits of lines. Proved here.
use Rattle.std.specs.Prelude.{◌≡◌, ℕ, ◌≤◌, true, List, length, Option, None, Some, Result, unsigned_abs, refl}
use Rattle.std.specs.Option.{option_map, option_and_then}
use Rattle.std.specs.Result.{ForOk, ForErr}
use Rattle.std.proofs.Common.{sym, subst}
use Rattle.std.proofs.lemmas.Bool.{cond_both}
use Rattle.std.proofs.lemmas.List.Elements.{recursion_from_All}
use Rattle.charges.specs.Lines.{Line, Ranged, Based}
use Rattle.curves.proofs.Acceptance.{accepted_says}
use Rattle.curves.proofs.Bounds.{completed_cheap}
use Rattle.curves.proofs.Soundness.{sound}
use Rattle.curves.specs.Acceptance.{accepted}
use Rattle.curves.specs.Completion.{completed}
use Rattle.curves.specs.declared.points.SubmittedCurve.{SubmittedCurve}
use Rattle.emergency.proofs.Limits.{fitting, sliced_limited}
use Rattle.emergency.proofs.Ranges.{amount_small, basis_small}
use Rattle.emergency.specs.declared.payment.Payment.{Payment}
use Rattle.emergency.specs.declared.row.EmergencyRow.{EmergencyRow}
use Rattle.emergency.specs.declared.row.Field.{Field}
use Rattle.emergency.specs.declared.row.RowFault.{RowFault}
use Rattle.emergency.specs.Fields.{bad_field, Fitting}
use Rattle.emergency.specs.Payments.{sliced, paid_on}
use Rattle.emergency.specs.Weights.{Limited}
use Rattle.quarters.specs.declared.quarter.QuarterHour.{QuarterHour}
use Rattle.quarters.specs.Quarters.{slices_of}
use Rattle.readers.specs.Emergency.{submitted_for, usable, settled, payment_of, fault_at, emergency_line, emergency_basis}
use Rattle.readers.specs.Lines.{line_from, basis_from}
use Rattle.readers.specs.Worked.{Payable, cased_ranged, cased_based}
use Rattle.std.specs.List.{AllByRecursion}

-- within the limits of an entry
abbrev Fair : Payment → Type 0
Fair paid = (unsigned_abs paid.amount ≤ 3000000000) × (paid.basis ≤ 1000000)

module _ (quarter : QuarterHour) (row : EmergencyRow) where
  -- of a fitting row
  paid_payable : (c : SubmittedCurve) → accepted c ≡ true → Fitting (length (slices_of quarter)) row → Fair (paid_on (slices_of quarter) (completed c) row)
  unfolding paid_on
  paid_payable c e fit =
      let xs = sliced (completed c) row.cap (slices_of quarter) row.bases in
      let each : AllByRecursion Limited xs = recursion_from_All Limited xs (sliced_limited (completed c) (slices_of quarter) row (completed_cheap c (sound c ((accepted_says c).0 e))) quarter.each fit) in
      (amount_small row.spp row.generation row.charging xs fit.spp fit.generation fit.least fit.below each, basis_small row.spp row.generation row.charging xs fit.spp fit.generation fit.least fit.below each)

  abbrev Within : ℕ → Result Payment RowFault → Type 0
  Within n owed = let line = line_from (λ paid. paid.amount) (fault_at n) row.resource row.party owed in Ranged line × Based line (basis_from (λ paid. paid.basis) owed)

  -- as a line, whatever the look-up found
  line_within : (n : ℕ) (bad : Option Field) (found : Option SubmittedCurve) → bad ≡ bad_field (length (slices_of quarter)) row → Within n (settled bad (option_map (λ ps. paid_on (slices_of quarter) ps row) (option_and_then usable found)))
  line_within n (Some field) found e = (tt, refl)
  line_within n None None e = (tt, refl)
  line_within n None (Some c) e =
      cond_both (accepted c) (Some (completed c)) None (λ ps. Within n (settled None (option_map (λ qs. paid_on (slices_of quarter) qs row) ps)))
      (λ a. let fit = fitting (length (slices_of quarter)) row (sym e) in let paid = paid_payable c a fit in ((fit.low, fit.high, paid.0), paid.1))
      (λ _. (tt, refl))

pub emergency_within : (quarter : QuarterHour) (curves : List SubmittedCurve) (n : ℕ) (row : EmergencyRow) → Ranged (emergency_line (slices_of quarter) curves n row) × Based (emergency_line (slices_of quarter) curves n row) (emergency_basis (slices_of quarter) curves row)
unfolding payment_of
emergency_within quarter curves n row = line_within quarter row n (bad_field (length (slices_of quarter)) row) (submitted_for curves row.resource row.hour) refl

pub emergency_ranged : (quarter : QuarterHour) (curves : List SubmittedCurve) (n : ℕ) (row : EmergencyRow) → Ranged (emergency_line (slices_of quarter) curves n row)
emergency_ranged quarter curves n row = (emergency_within quarter curves n row).0

pub emergency_based : (quarter : QuarterHour) (curves : List SubmittedCurve) (n : ℕ) (row : EmergencyRow) → Based (emergency_line (slices_of quarter) curves n row) (emergency_basis (slices_of quarter) curves row)
emergency_based quarter curves n row = (emergency_within quarter curves n row).1

-- what a row that is worked out carries of it
pub emergency_cased : (quarter : QuarterHour) (curves : List SubmittedCurve) (n : ℕ) (row : EmergencyRow) (line : Line) (basis : ℕ) →
    line ≡ emergency_line (slices_of quarter) curves n row → basis ≡ emergency_basis (slices_of quarter) curves row → ForOk line Payable × ForOk line (λ _. basis ≤ 1000000) × ForErr line (λ _. basis ≡ 0)
emergency_cased quarter curves n row line basis is rests =
    let within = emergency_within quarter curves n row in
    let rested = cased_based line basis (subst (Based line) (sym rests) (subst (λ l. Based l (emergency_basis (slices_of quarter) curves row)) (sym is) within.1)) in
    (cased_ranged line (subst Ranged (sym is) within.0), rested.0, rested.1)
