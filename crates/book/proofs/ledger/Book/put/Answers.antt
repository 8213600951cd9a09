use Rattle.std.proofs.Common.{◌≡◌, ℕ, ◌-◌, cond, ltb, length, get_or, pos, neg_ℤ, sum, sym, refl, ap, subst, ◌∙◌, arith, rules}
use Rattle.law.specs.Settlements.{Among, charge_of}
use Rattle.law.proofs.Table.{checks_so}
use Rattle.assess.specs.Slots.{type_number}
use Rattle.book.specs.Books.{brought}
use Rattle.book.specs.Model.{blank, entered}
use Rattle.book.proofs.Fills.{NowAt, written_part, part_length}
use Rattle.book.proofs.Moves.{put_moves, row_entered}
use borrow.Rule.Slice.PartMut.{put_mid}
use Rattle.book.proofs.ledger.Book.put.Goals as goal

pub charge-requires-clause-small : goal.charge-requires-clause-small
charge-requires-clause-small g c =
    let b = c.args.self.now in
    let slot = c.in_ok-slot.slot in
    let s = brought c.args.loads.now (g.S.LineSource.lines c.args.source.now) (g.R.SharingRule.meaning c.args.rule.now) in
    (checks_so b.parties b.intervals _ c.args.wanted (type_number slot.charge_type) slot.interval s (g.R.SharingRule.fair c.args.rule.now) (sym c.in_ok-totals.ensures.checks)).small

pub returns-clause-moves : goal.returns-clause-moves
returns-clause-moves g c =
    let b = c.args.self.now in
    let slot = c.in_ok-slot.slot in
    let start : ℕ = c.row-row.result.start in
    let size : ℕ = c.row-row.result.end - start in
    let after = put_mid start size b.entries.now c.write_row.new.entries in
    let s = brought c.args.loads.now (g.S.LineSource.lines c.args.source.now) (g.R.SharingRule.meaning c.args.rule.now) in
    let law = g.R.SharingRule.fair c.args.rule.now in
    let ok = checks_so b.parties b.intervals _ c.args.wanted (type_number slot.charge_type) slot.interval s law (sym c.in_ok-totals.ensures.checks) in
    let many : length c.write_row.new.entries ≡ b.parties = search rules in
    let one_each = ok.one_each in
    let total = c.in_ok-totals.ensures.sums.0 in
    let share : (p : ℕ) → Among p b.parties → get_or c.charge.new.charged (p - 1) (pos 0) ≡ charge_of s p =
    λ p a. c.charge.ensures.share (p - 1) (omega arith) ∙ ap (λ z. cond (ltb 0 (sum s.loads)) (get_or (s.rule (neg_ℤ z) s.loads) (p - 1) (pos 0)) (pos 0)) total in
    let rows : (p : ℕ) → Among p b.parties → get_or c.write_row.new.entries (p - 1) blank ≡ entered s p =
    λ p a. row_entered s c.checked.new.paid c.charge.new.charged p _ (c.write_row.ensures p (search rules)) (c.in_ok-totals.ensures.paid p a) (share p a) in
    put_moves b _ slot c.place-at.result c.args.charge_type c.args.interval c.in_ok-slot.ensures.named c.in_ok-slot.ensures.within c.place-at.ensures.at
    (record { parties_same = refl; intervals_same = refl; slots_lent = refl; entries_lent = refl; mark = refl; many = part_length blank start size b.parties b.entries.now c.write_row.new.entries (omega arith) (omega arith) many })
    c.args.wanted s law c.in_ok-totals.ensures.checks
    (subst (λ x. NowAt x b.parties (entered s) b.entries.now after) c.row-row.ensures.start (written_part start size b.parties (entered s) b.entries.now c.write_row.new.entries (omega arith) (omega arith) many rows))
