-- The numbers that faults are told by.
use Rattle.std.specs.Prelude.{ℕ}
use Rattle.charges.specs.declared.fault.Cause.{Cause}
use Rattle.charges.specs.declared.fault.Cause.TheVariants.{NoCurve, FieldOutside, NoLine, AmountBeyond, AdjustedBeyond, Own}
use Rattle.charges.specs.declared.fault.Fault.{Fault}
use Rattle.charges.specs.declared.fault.Layer.{Layer}
use Rattle.charges.specs.declared.fault.Layer.TheVariants.{Source, Period, Denial, Adjustment}

-- a cause's number; a firm's own cause tells it
abbrev pub cause_of : Cause → ℕ
cause_of NoCurve = 40
cause_of FieldOutside = 41
cause_of NoLine = 42
cause_of AmountBeyond = 43
cause_of AdjustedBeyond = 44
cause_of (Own number) = number

-- the kind of the layer in which a fault arose, 0 for the source itself
abbrev pub kind_of : Layer → ℕ
kind_of Source = 0
kind_of Period = 1
kind_of Denial = 2
kind_of Adjustment = 3

-- the fault of a cause, at a line, in a field, of a layer
abbrev pub fault_of : Cause → ℕ → ℕ → Layer → Fault
fault_of cause line field layer = record { cause = cause; line = line; field = field; layer = layer }
