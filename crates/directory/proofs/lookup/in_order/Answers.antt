use Rattle.std.proofs.Common.{◌≡◌, ℕ, ◌+◌, ◌-◌, ◌<◌, false, List, [], ◌∷◌, length, get_or, refl, sym, subst, arith}
use Rattle.std.proofs.lemmas.Grind.{common_steps}
use Rattle.std.specs.Ordering.{is_lt}
use Rattle.numbers.specs.Checks.{Each, Refuses}
use Rattle.directory.specs.Kinds.{Kind, Above}
use Rattle.directory.specs.Refusals.{order_check}
use Rattle.directory.proofs.lookup.in_order.Goals as goal

module _ {R K : Type 0} (kind : Kind R K) where
  -- a key that is not above the one before
  not_above : (xs : List R) (k j : ℕ) → j ≡ k + 1 → j < length xs
      → ((d : R) → is_lt (kind.order.cmp (kind.key_of (get_or xs k d)) (kind.key_of (get_or xs (k + 1) d))) ≡ false) → Above kind xs j → ⊥
  not_above [] k j e h low good = absurd (omega arith)
  not_above (x ∷ xs) k j e h low good = let l = low x in let a = good x in grind (arith, common_steps)

  -- the first pair of neighbours whose keys do not rise, k records after the first: its second record is the offender
  refused : (xs : List R) (k place : ℕ) → place ≡ k + 2 → k + 1 < length xs
      → ((d : R) → is_lt (kind.order.cmp (kind.key_of (get_or xs k d)) (kind.key_of (get_or xs (k + 1) d))) ≡ false) → Each (Above kind xs) (k + 1)
      → Refuses (order_check kind xs) 12 place
  refused xs k place e h low before =
      let at : place - 1 ≡ k + 1 = omega arith in
      (refl, omega arith, (omega arith, not_above xs k (place - 1) at (omega arith) low, subst (Each (Above kind xs)) (sym at) before))

pub returns-in-Some : goal.returns-in-Some
returns-in-Some g c =
    refused g.R.Keyed.kind _ c.in-Some.before _ (omega arith) (grind (arith, common_steps)) (λ d. grind (arith, common_steps)) (λ k h d. grind (arith, common_steps))
