-- What a row means as a line of a charge source.
use Rattle.std.specs.Prelude.{ℕ, Ok, Err, Result}
use Rattle.charges.specs.declared.fault.Cause.TheVariants.{FieldOutside}
use Rattle.charges.specs.declared.fault.Fault.{Fault}
use Rattle.charges.specs.declared.fault.Layer.TheVariants.{Source}
use Rattle.charges.specs.Faults.{fault_of}
use Rattle.charges.specs.Lines.{Line}
use Rattle.losses.specs.declared.loss.Loss.{Loss}
use Rattle.losses.specs.declared.row.Field.{Field}
use Rattle.losses.specs.declared.row.LossRow.{LossRow}
use Rattle.losses.specs.Faults.{number_of}
use Rattle.losses.specs.Losses.{loss_of}

-- the fault of line n, which has a field outside its limits
abbrev pub outside_at : ℕ → Field → Fault
outside_at n field = fault_of FieldOutside n (number_of field) Source

-- line n of a loss: resource, party and amount; or its fault
abbrev pub line_with : ℕ → LossRow → Result Loss Field → Line
line_with n row (Ok loss) = Ok (row.resource, row.party, loss.amount)
line_with n row (Err field) = Err (outside_at n field)

-- the row as line n
abbrev pub loss_line : ℕ → LossRow → Line
loss_line n row = line_with n row (loss_of row)

-- the kWh that a loss rests on; none where there is no loss
abbrev pub basis_in : Result Loss Field → ℕ
basis_in (Ok loss) = loss.basis
basis_in (Err field) = 0

-- those of the row
abbrev pub loss_basis : LossRow → ℕ
loss_basis row = basis_in (loss_of row)
