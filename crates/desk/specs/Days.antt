-- A day's work on a book of three parties and four intervals.
use Rattle.std.specs.Prelude.{◌≡◌, ℕ, cond, List, [], ◌∷◌, ℤ, pos, ◌+ℤ◌, Some, Ok, nat_le, unsigned_abs}
use Rattle.sharing.specs.Running.{running}
use Rattle.sharing.specs.Leftover.{leftover}
use Rattle.charges.specs.declared.listed.ListedRow.{ListedRow}
use Rattle.charges.specs.declared.period.State.TheVariants.{Open}
use Rattle.charges.specs.Lines.{Line}
use Rattle.charges.specs.Rows.{numbered}
use Rattle.charges.specs.Listed.{listed_line}
use Rattle.charges.specs.Settings.{Held, nothing, changed}
use Rattle.charges.specs.Adjustment.{adjusted_lines}
use Rattle.charges.specs.Period.{period_lines}
use Rattle.law.specs.Settlements.{Book}
use Rattle.law.specs.Steps.{Call, settle, restate, void}
use Rattle.law.specs.Runs.{MetCalls}
use Rattle.book.specs.Books.{brought}
use Rattle.desk.specs.Asked.{Asked}

-- the figures of the adjustment: that of resource 7, unless it is beyond what a layer holds
abbrev pub figures : ℤ → Held
figures figure = cond (nat_le (unsigned_abs figure) 1000000000) (changed nothing 7 (Some figure)) nothing

-- the lines that are settled: the rows as they are listed, adjusted
abbrev pub day_lines : List ListedRow → ℤ → List Line
day_lines rows figure = period_lines Open (adjusted_lines (figures figure) (numbered listed_line 1 rows))

-- the calls that change the book, the latest first
abbrev pub day_calls : List ℕ → List Line → List Call
day_calls loads lines =
    void 3 4
    ∷ restate 1 2 (brought loads lines leftover)
    ∷ settle 3 4 (brought loads lines running)
    ∷ settle 1 2 (brought loads lines running)
    ∷ []

-- the book met those calls, and the three balances are its answers
abbrev pub DayDone : List ℕ → List ListedRow → ℤ → Book → ℤ × ℤ × ℤ → Type 0
DayDone loads rows figure after v = MetCalls 3 4 (day_calls loads (day_lines rows figure)) after × Asked after (Ok v)

-- they add up to zero
abbrev pub AddUpToZero : ℤ × ℤ × ℤ → Type 0
AddUpToZero v = (v.0 +ℤ v.1) +ℤ v.2 ≡ pos 0
