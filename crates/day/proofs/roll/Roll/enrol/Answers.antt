use Rattle.std.proofs.Common.{◌≡◌, ◌+◌, ◌++◌, [], ◌∷◌, List, ℕ, length, map, arith}
use Rattle.std.proofs.lemmas.Grind.{common_steps}
use Rattle.std.specs.HashMap.{get}
use Rattle.std.specs.HashMap.Entry.{map_with_value}
use Rattle.std.specs.Option.{unwrap_or}
use Rattle.day.proofs.Parties.{same_code, agrees-push}
use Rattle.day.proofs.roll.Roll.enrol.Goals as goal

pub invariant_of-self-2 : goal.invariant_of-self-2
invariant_of-self-2 c =
    let codes : List (List ℕ) = map (λ code. code.items) c.self.inside.codes.items in
    let e : map (λ code. code.items) c.push.new.self.items ≡ codes ++ c.in_ok-key.key.items ∷ [] = grind (arith, common_steps) in
    let next : c.in_ok-number.number ≡ length codes + 1 = grind (arith, common_steps) in
    let is : c.or_insert.result.now ≡ unwrap_or (get same_code c.self.inside.numbers c.in_ok-key.key) c.in_ok-number.number = grind (arith, common_steps) in
    λ other.
    let k = agrees-push c.self.inside.numbers (map_with_value c.in_ok-self-inside.field-0 c.or_insert.result.now) codes c.in_ok-key.key c.in_ok-number.number c.or_insert.result.now c.self.invariant (c.in_ok-self-inside.ensures.update.0 c.or_insert.result.now) is next other in
    grind (arith, common_steps, k)
