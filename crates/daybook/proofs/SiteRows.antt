-- The first rows of a list into which a site was settled are the site's rows.
use Rattle.std.proofs.Common.{arith, ◌≡◌, ℕ, List, [], ◌∷◌, ◌++◌, map, length, take, ℤ, refl, ap}
use Rattle.std.specs.List.{zip}
use Rattle.std.proofs.lemmas.List.{length-map}
use Rattle.std.proofs.lemmas.List.FromFn.{length-map-range_with_len}
use Rattle.charges.specs.declared.listed.ListedRow.{ListedRow}
use Rattle.sharing.specs.declared.choice.RuleChoice.{RuleChoice}
use Rattle.sharing.specs.declared.choice.RuleChoice.TheVariants.{Running, Leftover}
use Rattle.sharing.specs.Choice.{chosen}
use Rattle.sharing.specs.Running.{running}
use Rattle.sharing.specs.Leftover.{leftover}
use Rattle.sites.specs.declared.site.SiteUnit.{SiteUnit}
use Rattle.sites.specs.Sites.{readings, row_of, written}

taken : (us : List SiteUnit) (ss : List ℤ) (rest : List ListedRow) → length ss ≡ length us → take (length us) (map (λ p. row_of p.0 p.1) (zip us ss) ++ rest) ≡ map (λ p. row_of p.0 p.1) (zip us ss)
taken [] ss rest e = refl
taken (u ∷ us) [] rest e = absurd (omega (arith, e))
taken (u ∷ us) (s ∷ ss) rest e = ap (λ rows. row_of u s ∷ rows) (taken us ss rest (omega (arith, e)))

-- a share for each load
many : (rule : RuleChoice) (total : ℤ) (loads : List ℕ) → length (chosen rule total loads) ≡ length loads
unfolding running leftover
many Running total loads = length-map-range_with_len _ 0 (length loads)
many Leftover total loads = length-map-range_with_len _ 0 (length loads)

pub front : (rule : RuleChoice) (amount : ℤ) (us : List SiteUnit) (before : List ListedRow) → take (length us) (written us (chosen rule amount (readings us)) before) ≡ map (λ p. row_of p.0 p.1) (zip us (chosen rule amount (readings us)))
front rule amount us before = taken us (chosen rule amount (readings us)) _ (omega (arith, many rule amount (readings us), length-map us (λ (u : SiteUnit). u.reading)))
