use Rattle.std.proofs.Common.{◌≡◌, ◌*◌, ◌≤◌, nat_abs}
use Rattle.book.proofs.Asked.{below, taken}
use Rattle.book.proofs.ledger.Book.balance.Given as goal

abbrev pub invariant-loop-at : goal.invariant-loop-at
invariant-loop-at l = record {
  sum : l.sum ≡ below l.at (taken l.self.parties l.party l.self.slots.now l.self.entries.now);
  small : nat_abs l.sum ≤ l.at * 18446744073709551616;
}
