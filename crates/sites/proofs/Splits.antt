-- The units' readings are what a sharing rule may be asked, and the shares stay within what a listed source takes.
use Rattle.std.proofs.Common.{◌≡◌, ◌<◌, ◌≤◌, false, ◌||◌, ltb, List, [], ◌∷◌, length, ℤ, nat_abs, sum, ◌∙◌, arith}
use Rattle.std.specs.List.{AllByRecursion}
use Rattle.std.proofs.lemmas.Bool.{or_parts, ltb-false}
use Rattle.std.proofs.lemmas.List.{length-map}
use Rattle.numbers.specs.Ranges.{Small}
use Rattle.sharing.specs.Rules.{Asked, Fair}
use Rattle.sharing.proofs.Limits.{fair_within}
use Rattle.sites.specs.declared.site.SiteUnit.{SiteUnit}
use Rattle.sites.specs.Refusals.{unit_strays, units_stray}
use Rattle.sites.specs.Sites.{readings}

many_readings : (us : List SiteUnit) → length (readings us) ≡ length us
many_readings us = length-map us (λ (u : SiteUnit). u.reading)

readings_small : (us : List SiteUnit) → units_stray us ≡ false → AllByRecursion (λ load. load ≤ 20000000) (readings us)
readings_small [] good = tt
readings_small (u ∷ us) good =
    let p = or_parts (unit_strays u) (units_stray us) good in
    let q = or_parts (ltb u.resource 1 || ltb 9999 u.resource) (ltb 500000 u.reading) p.0 in
    (omega (arith, ltb-false 500000 u.reading q.1), readings_small us p.1)

module _ (total : ℤ) (us : List SiteUnit) (small : nat_abs total ≤ 3000000000) where
  pub asked : length us ≤ 8 → units_stray us ≡ false → 0 < sum (readings us) → Asked total (readings us)
  asked few good loaded = record { range = omega arith; few = omega (arith, many_readings us); each = readings_small us good; loaded = loaded }

  pub shares_fit : (shares : List ℤ) → Fair total (readings us) shares → (length shares ≡ length us) × Small 3000000000 (length us) shares
  shares_fit shares fair = (fair.count ∙ many_readings us, λ k h. omega (arith, fair_within total (readings us) shares k fair (omega (arith, many_readings us))))
