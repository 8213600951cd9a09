-- What a listed row means: its fields are the resource, 1, and the amount, 2.
use Rattle.std.specs.Prelude.{ℕ, cond, ◌||◌, Ok, Err, nat_lt, unsigned_abs}
use Rattle.charges.specs.declared.fault.Cause.TheVariants.{FieldOutside, AmountBeyond}
use Rattle.charges.specs.declared.fault.Layer.TheVariants.{Source}
use Rattle.charges.specs.declared.listed.ListedRow.{ListedRow}
use Rattle.charges.specs.Faults.{fault_of}
use Rattle.charges.specs.Lines.{Line}

-- the row as line n
abbrev pub listed_line : ℕ → ListedRow → Line
listed_line n row =
    cond (nat_lt row.resource 1 || nat_lt 9999 row.resource) (Err (fault_of FieldOutside n 1 Source))
    (cond (nat_lt 3000000000 (unsigned_abs row.amount)) (Err (fault_of AmountBeyond n 2 Source))
    (Ok (row.resource, row.party, row.amount)))
