-- Emergency rows that are worked out.
use Rattle.std.specs.Prelude.{◌≡◌, ℕ, List, map}
use Rattle.charges.specs.Rows.{numbered}
use Rattle.curves.specs.declared.points.SubmittedCurve.{SubmittedCurve}
use Rattle.emergency.specs.declared.row.EmergencyRow.{EmergencyRow}
use Rattle.readers.specs.declared.worked.WorkedRow.{WorkedRow}
use Rattle.readers.specs.Emergency.{emergency_line, emergency_basis}

-- each of them is the line and the basis of its row, the first as line 1
abbrev pub WorkedOut : List ℕ → List SubmittedCurve → List EmergencyRow → List WorkedRow → Type 0
WorkedOut seconds curves rows worked = (map (λ w. w.line) worked ≡ numbered (emergency_line seconds curves) 1 rows) × (map (λ w. w.basis) worked ≡ map (emergency_basis seconds curves) rows)
