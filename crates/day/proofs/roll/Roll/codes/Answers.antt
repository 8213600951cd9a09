use Rattle.std.proofs.Common.{rules, ◌≡◌, ℕ, List, [], ◌∷◌, map, refl, ap, ◌∙◌, subst, IfOk}
use Rattle.std.proofs.lemmas.Iterator.{YieldsList-from_slice, YieldsList-from_map_by}
use Rattle.std.proofs.lemmas.Iterator.Consumers.{map_from_collect}
use Rattle.directory.specs.Codes.{meaning_of, sense_of}
use Rattle.day.proofs.roll.Roll.codes.Goals as goal

read : {X : Type 0} (text : X → List ℕ) (codes : List X) → map (λ code. meaning_of (text code)) codes ≡ map meaning_of (map text codes)
read text [] = refl
read text (c ∷ codes) = ap (λ ms. meaning_of (text c) ∷ ms) (read text codes)

-- each code is made from its text, and a failed collection is none
pub returns : goal.returns
returns c =
    let codes = c.self.inside.codes.items in
    let each = map_from_collect c.collect.result c.collect.ensures.ran (YieldsList-from_map_by _ sense_of (λ code. meaning_of code.items) (YieldsList-from_slice codes cc) c.map.ensures.closure (λ x r q k. search rules)) in
    let all : map (λ code. meaning_of code.items) codes ≡ map meaning_of c.args.self.now = read (λ code. code.items) codes ∙ ap (map meaning_of) c.self.view_is in
    subst (λ ms. IfOk c.collect.result (λ made. map sense_of made.items ≡ ms)) all each
