use Rattle.std.proofs.Common.{◌≡◌, ℕ, ◌-◌, get_or, length}
use Rattle.law.specs.Settlements.{Among}
use Rattle.book.specs.Model.{row, blank}
use Rattle.book.proofs.ledger.settling.write_row.Given as goal

abbrev pub invariant-loop-k : goal.invariant-loop-k
invariant-loop-k l = (p : ℕ) → Among p (length l.yielded) → get_or l.entries (p - 1) blank ≡ row l.loads l.paid l.charged p
