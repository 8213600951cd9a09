use Rattle.std.proofs.Common.{◌≡◌, ℕ, ◌-◌, true, get_or, length, replicate, refl, subst, arith, rules}
use Rattle.book.specs.Model.{off, blank}
use Rattle.book.proofs.Fills.{Cleared, cleared_part, part_length}
use Rattle.book.proofs.Moves.{void_moves}
use borrow.Rule.Slice.PartMut.{put_mid}
use Rattle.book.proofs.ledger.Book.void.Goals as goal

pub returns : goal.returns
returns c =
    let b = c.args.self.now in
    let start : ℕ = c.row-row.result.start in
    let size : ℕ = c.row-row.result.end - start in
    let after = put_mid start size b.entries.now c.fill.new.self in
    let stands : (get_or b.slots.now c.place-at.result off).stands ≡ true = search rules in
    let blanks : c.fill.new.self ≡ replicate b.parties blank = search rules in
    let many : length c.fill.new.self ≡ b.parties = search rules in
    let room = b.entered in
    void_moves b _ c.in_ok-slot.slot c.place-at.result c.args.charge_type c.args.interval c.in_ok-slot.ensures.named c.in_ok-slot.ensures.within c.place-at.ensures.at
    (record { parties_same = refl; intervals_same = refl; slots_lent = refl; entries_lent = refl; mark = refl; many = part_length blank start size b.parties b.entries.now c.fill.new.self (omega arith) (omega arith) many })
    stands
    (subst (λ x. Cleared blank x b.parties b.entries.now after) c.row-row.ensures.start (cleared_part blank start size b.parties b.entries.now c.fill.new.self (omega arith) (omega arith) blanks))
