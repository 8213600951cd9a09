-- What a charge source means: a list of lines.
use Rattle.std.specs.Prelude.{◌≡◌, ℕ, ◌≤◌, List, ◌∷◌, ℤ, Ok, Err, Result, slice_index_or, unsigned_abs}
use Rattle.charges.specs.declared.fault.Fault.{Fault}
use Rattle.charges.specs.declared.fault.Cause.TheVariants.{NoLine}
use Rattle.charges.specs.declared.fault.Layer.TheVariants.{Source}
use Rattle.charges.specs.Faults.{fault_of}

-- resource, party and amount in cents
abbrev pub Entry : Type 0
Entry = ℕ × ℕ × ℤ

-- an entry, or a fault
abbrev pub Line : Type 0
Line = Result Entry Fault

-- there is no such line
abbrev pub no_line : ℕ → Line
no_line n = Err (fault_of NoLine n 0 Source)

-- line n, counted from 1
abbrev pub line_at : List Line → ℕ → Line
line_at ls n = slice_index_or (no_line n ∷ ls) n (no_line n)

-- an entry is within the limits; of a fault nothing is asked
abbrev pub Ranged : Line → Type 0
Ranged (Ok e) = (1 ≤ e.0) × (e.0 ≤ 9999) × (unsigned_abs e.2 ≤ 3000000000)
Ranged (Err f) = Unit {0}

-- every line is within the limits
pub record Sound (ls : List Line) : Type 0 where
  pub ranged : (n : ℕ) → Ranged (line_at ls n)

-- the kWh that a line rests on: at most 1,000,000, and 0 for a fault
abbrev pub Based : Line → ℕ → Type 0
Based (Ok e) b = b ≤ 1000000
Based (Err f) b = b ≡ 0
