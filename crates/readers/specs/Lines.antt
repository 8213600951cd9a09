-- A row as a line of a source: what it comes to, or its fault.
use Rattle.std.specs.Prelude.{ℕ, ℤ, Ok, Err, Result}
use Rattle.charges.specs.declared.fault.Fault.{Fault}
use Rattle.charges.specs.Lines.{Line}

-- a row of a resource and a party that comes to an amount in cents, or that has a fault
abbrev pub line_from : {T E : Type 0} → (T → ℤ) → (E → Fault) → ℕ → ℕ → Result T E → Line
line_from amount fault resource party (Ok owed) = Ok (resource, party, amount owed)
line_from amount fault resource party (Err e) = Err (fault e)

-- the kWh that it rests on, 0 for a fault
abbrev pub basis_from : {T E : Type 0} → (T → ℕ) → Result T E → ℕ
basis_from basis (Ok owed) = basis owed
basis_from basis (Err e) = 0
