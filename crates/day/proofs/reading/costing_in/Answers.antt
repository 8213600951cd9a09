use Rattle.std.proofs.Common.{rules, arith, ◌≡◌, codes, refl}
use Rattle.std.proofs.lemmas.Slice.Eq.{text_from_reads}
use Rattle.day.proofs.reading.costing_in.Goals as goal

pub returns-in-verified : goal.returns-in-verified
returns-in-verified c =
    let word : c.args.text.now ≡ codes "verified" = text_from_reads _ _ (omega (arith, c.in-verified.len_at_least, c.in-verified.len_below)) (search rules) in
    rw word refl

pub returns-in-storage : goal.returns-in-storage
returns-in-storage c =
    let word : c.args.text.now ≡ codes "storage" = text_from_reads _ _ (omega (arith, c.in-storage.len_at_least, c.in-storage.len_below)) (search rules) in
    rw word refl
