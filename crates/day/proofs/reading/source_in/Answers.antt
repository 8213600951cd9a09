use Rattle.std.proofs.Common.{rules, arith, ◌≡◌, codes, refl}
use Rattle.std.proofs.lemmas.Slice.Eq.{text_from_reads}
use Rattle.day.proofs.reading.source_in.Goals as goal

pub returns-in-listed : goal.returns-in-listed
returns-in-listed c =
    let word : c.args.text.now ≡ codes "listed" = text_from_reads _ _ (omega (arith, c.in-listed.len_at_least, c.in-listed.len_below)) (search rules) in
    rw word refl
