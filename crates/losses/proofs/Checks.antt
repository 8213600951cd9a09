-- The field checks in a row.
use Rattle.std.proofs.Common.{◌≡◌, cond, Bool, true, false, List, [], ◌∷◌, ◌++◌, Option, Some, refl}
use Rattle.std.specs.Option.{option_or}
use Rattle.numbers.specs.Ranges.{outside}
use Rattle.losses.specs.Fields.{Limited, outside_in}
use Rattle.losses.specs.declared.row.Field.{Field}

-- of two lists, the first one's comes first
pub outside_in_both : (xs ys : List Limited) → outside_in (xs ++ ys) ≡ option_or (outside_in xs) (outside_in ys)
outside_in_both [] ys = refl
outside_in_both (x ∷ xs) ys = step (outside x.least x.most x.value) x.field (outside_in xs) (outside_in ys) (outside_in (xs ++ ys)) (outside_in_both xs ys)
  where
    step : (b : Bool) (f : Field) (o p q : Option Field) → q ≡ option_or o p → cond b (Some f) q ≡ option_or (cond b (Some f) o) p
    step true f o p q e = refl
    step false f o p q e = e
