-- What the adjustment layer means.
use Rattle.std.specs.Prelude.{ℕ, cond, List, ℤ, ◌-ℤ◌, Ok, Err, Result, nat_lt, unsigned_abs}
use Rattle.charges.specs.declared.adjustment.AdjustFault.{AdjustFault}
use Rattle.charges.specs.declared.adjustment.AdjustFault.TheVariants.{Passed, Beyond}
use Rattle.charges.specs.declared.fault.Fault.{Fault}
use Rattle.charges.specs.declared.fault.Cause.TheVariants.{AdjustedBeyond}
use Rattle.charges.specs.declared.fault.Layer.TheVariants as layer
use Rattle.charges.specs.Faults.{fault_of}
use Rattle.charges.specs.Lines.{Entry, Line}
use Rattle.charges.specs.Layers.{layered}
use Rattle.charges.specs.Settings.{Held, figure_in}

-- the layer's own fault, at its line; one from below is passed on whole
abbrev pub fault_from : AdjustFault → Fault
fault_from (Passed f) = f
fault_from (Beyond n) = fault_of AdjustedBeyond n 0 layer.Adjustment

-- the answer as a line
abbrev pub answer_of : Result Entry AdjustFault → Line
answer_of (Ok e) = Ok e
answer_of (Err a) = Err (fault_from a)

-- the amount less the resource's figure
abbrev pub adjusted_amount : Held → Entry → ℤ
adjusted_amount held e = e.2 -ℤ figure_in held e.0

-- the entry with that amount, or a fault where it is beyond what a line may hold
abbrev pub adjusted_entry : Held → ℕ → Entry → Result Entry AdjustFault
adjusted_entry held n e = cond (nat_lt 3000000000 (unsigned_abs (adjusted_amount held e))) (Err (Beyond n)) (Ok (e.0, e.1, adjusted_amount held e))

-- the lines of the layer
abbrev pub adjusted_lines : Held → List Line → List Line
adjusted_lines held ls = layered (λ n e. answer_of (adjusted_entry held n e)) ls
