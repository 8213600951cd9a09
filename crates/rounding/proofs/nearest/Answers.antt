use Rattle.std.proofs.Common.{◌≡◌, arith, w64, to_z, of_z}
use Rattle.std.proofs.lemmas.Int.{to_z-of_z}
use Rattle.rounding.specs.Nearest.{nearest_to}
use Rattle.rounding.proofs.Laws.{nearest_lawful}
use Rattle.rounding.proofs.nearest.Goals as goal

pub returns-clause-laws : goal.returns-clause-laws
unfolding nearest_to
returns-clause-laws c =
    let value : to_z w64 (of_z w64 c.with_sign.result) ≡ nearest_to c.args.n c.args.d = grind (arith, to_z-of_z) in
    rw value (nearest_lawful c.args.n c.args.d c.requires)
