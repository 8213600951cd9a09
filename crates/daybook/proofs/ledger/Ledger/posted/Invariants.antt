use Rattle.std.proofs.Common.{◌≡◌, ◌-◌, ◌*◌, ◌≤◌, nat_abs, pos}
use Rattle.book.specs.Books.{model}
use Rattle.daybook.specs.Calls.{type_in, told_at}
use Rattle.law.specs.Settlements.{over}
use Rattle.daybook.proofs.ledger.Ledger.posted.Given as goal

abbrev pub invariant-loop-party : goal.invariant-loop-party
invariant-loop-party l = record {
  paid : l.paid ≡ over (l.party - 1) (λ p. (told_at (model l.self.book) (type_in l.slot) l.slot.interval p).paid);
  load : pos l.load ≡ over (l.party - 1) (λ p. pos (told_at (model l.self.book) (type_in l.slot) l.slot.interval p).load);
  near : nat_abs l.paid ≤ (l.party - 1) * 9223372036854775808;
  small : l.load ≤ (l.party - 1) * 4294967296;
  within : l.party ≤ 65;
}
