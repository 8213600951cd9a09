-- The lines of the emergency rows that were worked out, and their bases, are those of the day's table.
use Rattle.std.proofs.Common.{◌≡◌, ℕ, List, map, take, refl, ◌∙◌}
use Rattle.charges.specs.Rows.{numbered}
use Rattle.curves.specs.declared.points.SubmittedCurve.{SubmittedCurve}
use Rattle.day.specs.declared.records.SourceName.TheVariants as sources
use Rattle.daybook.specs.declared.tables.Tables.{Tables}
use Rattle.daybook.specs.Calls.{table_lines, table_bases}
use Rattle.daybook.proofs.WorkedOut.{told_each}
use Rattle.emergency.specs.declared.row.EmergencyRow.{EmergencyRow}
use Rattle.quarters.specs.Quarters.{slices_of}
use Rattle.readers.specs.declared.worked.WorkedRow.{WorkedRow}
use Rattle.readers.specs.Emergency.{emergency_line, emergency_basis}

module _ (tables : Tables) (curves known : List SubmittedCurve) (seconds : List ℕ) (rows : List EmergencyRow) (worked : List WorkedRow) (slices : seconds ≡ slices_of tables.emergency_quarter) (same : known ≡ curves) (taken : rows ≡ take 257 tables.emergency.items) where
  pub lines_of : map (λ w. w.line) worked ≡ numbered (emergency_line seconds known) 1 rows → numbered (λ n w. w.line) 1 worked ≡ table_lines sources.Emergency tables curves
  lines_of e = told_each (λ w. w.line) 1 worked ∙ e ∙ rw (slices, same, taken) refl

  pub bases_of : map (λ w. w.basis) worked ≡ map (emergency_basis seconds known) rows → numbered (λ n w. w.basis) 1 worked ≡ table_bases sources.Emergency tables curves
  bases_of e = told_each (λ w. w.basis) 1 worked ∙ e ∙ rw (slices, same, taken) refl
