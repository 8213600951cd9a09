use Rattle.std.proofs.Common.{rules, arith, ◌≡◌, codes, refl}
use Rattle.std.proofs.lemmas.Slice.Eq.{text_from_reads}
use Rattle.day.proofs.reading.state_in.Goals as goal

pub returns-in-closed : goal.returns-in-closed
returns-in-closed c =
    let word : c.args.text.now ≡ codes "closed" = text_from_reads _ _ (omega (arith, c.in-closed.len_at_least, c.in-closed.len_below)) (search rules) in
    rw word refl
