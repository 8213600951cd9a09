use Rattle.std.proofs.Common.{pos, sym, ap, ◌∙◌, arith}
use Rattle.std.proofs.lemmas.Int.{ints}
use Rattle.book.specs.Books.{model}
use Rattle.daybook.proofs.Posted.{one_more, paid_all, load_all}
use Rattle.daybook.specs.Calls.{type_in, told_at}
use Rattle.daybook.proofs.ledger.Ledger.posted.Goals as goal

pub overflow_add-paid : goal.overflow_add-paid
overflow_add-paid c = omega (arith, ints)

pub loop-party-preserved : goal.loop-party-preserved
loop-party-preserved c =
    let n = c.loop-party.party in
    let paid = one_more (λ p. (told_at (model c.args.self.now.book) (type_in c.args.slot) c.args.slot.interval p).paid) n c.loop-party.paid c.kept-kept.result.paid (omega arith) (sym c.loop-party.paid-is ∙ c.loop-party.invariant.paid) c.kept-kept.ensures.paid in
    let load = one_more (λ p. pos (told_at (model c.args.self.now.book) (type_in c.args.slot) c.args.slot.interval p).load) n (pos c.loop-party.load) (pos c.kept-kept.result.load) (omega arith) c.loop-party.invariant.load (ap pos c.kept-kept.ensures.load) in
    record { paid = omega (arith, ints, paid); load = omega (arith, ints, load); near = omega (arith, ints); small = omega arith; within = omega arith }

pub returns-clause-paid : goal.returns-clause-paid
returns-clause-paid c = paid_all (model c.args.self.now.book) (type_in c.args.slot) c.args.slot.interval c.loop-party.party _ (omega (arith, c.loop-party.invariant.within)) c.loop-party.invariant.paid

pub returns-clause-load : goal.returns-clause-load
returns-clause-load c = load_all (model c.args.self.now.book) (type_in c.args.slot) c.args.slot.interval c.loop-party.party _ (omega (arith, c.loop-party.invariant.within)) c.loop-party.invariant.load
