-- What an emergency row means as a line: its payment on the curve of its resource and hour, or its fault.
use Rattle.std.specs.Prelude.{ℕ, ◌&&◌, cond, List, length, find, Option, None, Some, Ok, Err, Result, ◌==◌}
use Rattle.std.specs.Option.{option_map, option_and_then}
use Rattle.charges.specs.declared.fault.Fault.{Fault}
use Rattle.charges.specs.declared.fault.Cause.TheVariants as causes
use Rattle.charges.specs.declared.fault.Layer.TheVariants.{Source}
use Rattle.charges.specs.Faults.{fault_of}
use Rattle.charges.specs.Lines.{Line}
use Rattle.curves.specs.Acceptance.{accepted}
use Rattle.curves.specs.Completion.{completed}
use Rattle.curves.specs.declared.points.Point.{Point}
use Rattle.curves.specs.declared.points.SubmittedCurve.{SubmittedCurve}
use Rattle.emergency.specs.declared.payment.Payment.{Payment}
use Rattle.emergency.specs.declared.row.EmergencyRow.{EmergencyRow}
use Rattle.emergency.specs.declared.row.Field.{Field}
use Rattle.emergency.specs.declared.row.RowFault.{RowFault}
use Rattle.emergency.specs.declared.row.RowFault.TheVariants.{Outside, NoCurve}
use Rattle.emergency.specs.Faults.{number_of}
use Rattle.emergency.specs.Fields.{bad_field}
use Rattle.emergency.specs.Payments.{paid_on}
use Rattle.readers.specs.Lines.{line_from, basis_from}

-- the submitted curve of a resource and hour, if there is one
abbrev pub submitted_for : List SubmittedCurve → ℕ → ℕ → Option SubmittedCurve
submitted_for curves resource hour = find (λ c. c.resource == resource && c.hour == hour) curves

-- the points that it completes to, if its checks accept it
abbrev pub usable : SubmittedCurve → Option (List Point)
usable c = cond (accepted c) (Some (completed c)) None

-- the points that base points of a resource and hour are priced on, if there are any
abbrev pub points_for : List SubmittedCurve → ℕ → ℕ → Option (List Point)
points_for curves resource hour = option_and_then usable (submitted_for curves resource hour)

-- the first field outside its limits comes first, then that there is no curve
abbrev pub settled : Option Field → Option Payment → Result Payment RowFault
settled (Some field) payment = Err (Outside (number_of field))
settled None None = Err NoCurve
settled None (Some payment) = Ok payment

-- what a row is paid in a quarter hour of these slices
unfoldable pub payment_of : List ℕ → List SubmittedCurve → EmergencyRow → Result Payment RowFault
payment_of seconds curves row = settled (bad_field (length seconds) row) (option_map (λ ps. paid_on seconds ps row) (points_for curves row.resource row.hour))

-- a row's fault at line n
abbrev pub fault_at : ℕ → RowFault → Fault
fault_at n (Outside field) = fault_of causes.FieldOutside n field Source
fault_at n NoCurve = fault_of causes.NoCurve n 0 Source

-- the row as line n
abbrev pub emergency_line : List ℕ → List SubmittedCurve → ℕ → EmergencyRow → Line
emergency_line seconds curves n row = line_from (λ paid. paid.amount) (fault_at n) row.resource row.party (payment_of seconds curves row)

-- the kWh that it rests on
abbrev pub emergency_basis : List ℕ → List SubmittedCurve → EmergencyRow → ℕ
emergency_basis seconds curves row = basis_from (λ paid. paid.basis) (payment_of seconds curves row)
