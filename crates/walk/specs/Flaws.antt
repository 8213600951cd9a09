-- Which line keeps a source's lines from being settled, and how.
use Rattle.std.specs.Prelude.{◌≡◌, ℕ, ◌+◌, ◌-◌, ◌<◌, ◌≤◌, Bool, cond, ◌&&◌, List, [], ◌∷◌, length, ℤ, Some, None, Ok, Err, Option, Result, ◌≢◌, nat_le, nat_lt}
use Rattle.numbers.specs.Checks.{Each, First}
use Rattle.charges.specs.declared.fault.Fault.{Fault}
use Rattle.charges.specs.Lines.{Entry, Line, line_at}
use Rattle.walk.specs.declared.flaw.Flaw.{Flaw}
use Rattle.walk.specs.declared.flaw.Flaw.TheVariants.{ManyLines, Faulty, Unfit}
use Rattle.walk.specs.Totals.{total_of}

-- a refusal's number
abbrev pub number_of : Flaw → ℕ
number_of ManyLines = 34
number_of (Faulty line fault) = 35
number_of (Unfit line) = 36

-- its place: the line, or 0 for the whole source
abbrev pub place_of : Flaw → ℕ
place_of ManyLines = 0
place_of (Faulty line fault) = line
place_of (Unfit line) = line

-- the entry's party is one of so many, and its resource above the one before
abbrev pub fits : ℕ → ℕ → Entry → Bool
fits parties before e = (nat_le 1 e.1 && nat_le e.1 parties) && nat_lt before e.0

-- the same where there may be no resource before
abbrev pub fits_after : ℕ → Option ℕ → Entry → Bool
fits_after parties None e = nat_le 1 e.1 && nat_le e.1 parties
fits_after parties (Some before) e = fits parties before e

-- line n after the resource before: its entry, or how it is flawed
abbrev pub fitting : ℕ → ℕ → ℕ → Line → Result Entry Flaw
fitting parties before n (Ok e) = cond (fits parties before e) (Ok e) (Err (Unfit n))
fitting parties before n (Err f) = Err (Faulty n f)

-- the first flaw of the lines from line n on, after the resource before
abbrev pub first_flaw : ℕ → ℕ → ℕ → List Line → Option Flaw
first_flaw parties before n [] = None
first_flaw parties before n (Ok e ∷ ls) = cond (fits parties before e) (first_flaw parties e.0 (n + 1) ls) (Some (Unfit n))
first_flaw parties before n (Err f ∷ ls) = Some (Faulty n f)

-- the flaw of a source's lines: more than 256, or that of the first flawed line; before line 1 there is none
abbrev pub flaw_of : ℕ → List Line → Option Flaw
flaw_of parties ls = cond (nat_lt 256 (length ls)) (Some ManyLines) (first_flaw parties 0 1 ls)

-- what a walk answers: the flaw, or the total
abbrev pub answering : Option Flaw → ℤ → Result ℤ Flaw
answering (Some flaw) total = Err flaw
answering None total = Ok total

-- what a walk over the lines of a source answers
abbrev pub walked : ℕ → List Line → Result ℤ Flaw
walked parties ls = answering (flaw_of parties ls) (total_of ls)

-- the same by places. A line's resource, 0 where it is a fault or there is no such line
abbrev pub resource_of : Line → ℕ
resource_of (Ok e) = e.0
resource_of (Err f) = 0

-- the line is an entry of one of the parties, and its resource is above the one before
abbrev pub Fitting : ℕ → ℕ → Line → Type 0
Fitting parties before (Ok e) = (1 ≤ e.1) × (e.1 ≤ parties) × (before < e.0)
Fitting parties before (Err f) = ⊥

-- of line k + 1, after line k
abbrev pub Fit : ℕ → List Line → ℕ → Type 0
Fit parties ls k = Fitting parties (resource_of (line_at ls k)) (line_at ls (k + 1))

-- at most 256 lines, and every one fits
abbrev pub AllFit : ℕ → List Line → Type 0
AllFit parties ls = (length ls ≤ 256) × Each (Fit parties ls) (length ls)

-- line n is the first that does not fit
abbrev pub FirstAt : ℕ → List Line → ℕ → Type 0
FirstAt parties ls n = (length ls ≤ 256) × (1 ≤ n) × First (Fit parties ls) (length ls) (n - 1)

-- more than 256 lines; else the first line that does not fit, which is a fault or an entry
abbrev pub Flawed : ℕ → List Line → Flaw → Type 0
Flawed parties ls ManyLines = 256 < length ls
Flawed parties ls (Faulty n fault) = FirstAt parties ls n × (line_at ls n ≡ Err fault)
Flawed parties ls (Unfit n) = FirstAt parties ls n × ((fault : Fault) → line_at ls n ≢ Err fault)
