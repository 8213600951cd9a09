use Rattle.std.proofs.Common.{rules, arith, ◌≡◌, codes, refl}
use Rattle.std.proofs.lemmas.Slice.Eq.{text_from_reads}
use Rattle.day.proofs.reading.rule_in.Goals as goal

pub returns-in-running : goal.returns-in-running
returns-in-running c =
    let word : c.args.text.now ≡ codes "running" = text_from_reads _ _ (omega (arith, c.in-running.len_at_least, c.in-running.len_below)) (search rules) in
    rw word refl

pub returns-in-leftover : goal.returns-in-leftover
returns-in-leftover c =
    let word : c.args.text.now ≡ codes "leftover" = text_from_reads _ _ (omega (arith, c.in-leftover.len_at_least, c.in-leftover.len_below)) (search rules) in
    rw word refl
