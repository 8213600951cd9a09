-- What a binary search finds among rising keys.
use Rattle.std.proofs.Common.{◌≡◌, ℕ, ◌+◌, ◌-◌, ◌<◌, ◌≤◌, true, List, [], ◌∷◌, length, get_or, Some, None, Ordering, Less, Equal, Greater, ap, ◌∙◌, ⊎_elim, take, drop, arith}
use Rattle.std.specs.List.{HoldsAt}
use Rattle.std.specs.List.Sorted.{IsSortedBy, IsNonDecreasingBy}
use Rattle.std.specs.Ordering.{is_lt, ordering_index}
use Rattle.std.proofs.lemmas.Bool.{both_ways, cases_lt, cases_order}
use Rattle.std.proofs.lemmas.Cmp.{tied_itself}
use Rattle.std.proofs.lemmas.Grind.{common_steps}
use Rattle.std.proofs.lemmas.List.{length-drop, length-take-le, get_or-drop, get_or-take}
use Rattle.std.proofs.lemmas.List.Elements.{at_read}
use Rattle.std.proofs.lemmas.List.Sorted.{ranks_by, sorted_far, searchable_from_sorted}
use Rattle.directory.specs.Orders.{compared}
use Rattle.directory.specs.Kinds.{Kind, Rising, HasAt, Found}

-- a record of a list that has a place
record_of : {X : Type 0} (xs : List X) (k : ℕ) → k < length xs → X
record_of [] k h = absurd (omega arith)
record_of (x ∷ xs) k h = x

module _ {R K : Type 0} (kind : Kind R K) (xs : List R) (up : Rising kind xs) where
  abbrev cmp : K → K → Ordering
  cmp = kind.order.cmp

  -- each key is below the next
  below : (k : ℕ) (d : R) → k + 1 < length xs → is_lt (cmp (kind.key_of (get_or xs k d)) (kind.key_of (get_or xs (k + 1) d))) ≡ true
  below k d h = let a = up (k + 1) h d in grind (arith, common_steps)

  -- so the list is sorted as a search asks
  sorted : IsSortedBy (λ x y. is_lt (cmp (kind.key_of x) (kind.key_of y))) xs
  sorted k d first h = (ranks_by (compared kind.order) kind.key_of).one_way _ _ (below k d h)

  module _ (key : K) where
    -- no key stands twice
    apart : (p q : ℕ) → HasAt kind xs key p → HasAt kind xs key q → p < q → ⊥
    apart p q at_p at_q lt =
        let d : R = record_of xs (p - 1) (omega arith) in
        let next = below (p - 1) d (omega arith) in
        let far = sorted_far _ (ranks_by (compared kind.order) kind.key_of) xs sorted (p - 1 + 1) (q - 1) d (omega arith) (omega arith) in
        both_ways _ (rw (at_q.2 d) at far) (rw (at_p.2 d) at next)

    -- a record that compares as equal has the key, and it alone
    found : (at : ℕ) → at < length xs → HoldsAt (λ x. cmp (kind.key_of x) key ≡ Equal) xs at → Found kind xs key (Some (at + 1))
    found at h equal =
        let back : at + 1 - 1 ≡ at = omega arith in
        let here : HasAt kind xs key (at + 1) = (omega arith, omega arith, λ d. rw back (kind.order.same _ _ (equal d))) in
        (here, λ other there. ⊎_elim (λ e. e) (⊎_elim (λ lt. absurd (apart other (at + 1) there here lt)) (λ lt. absurd (apart (at + 1) other here there lt))) (cases_order other (at + 1)))

    -- how the records stand to the key does not fall: first come those below it, then the one that has it, then those above
    ranked : IsNonDecreasingBy (λ x. ordering_index (cmp (kind.key_of x) key)) xs
    ranked = searchable_from_sorted (compared kind.order) kind.key_of xs key sorted

    -- a record that has the key compares with it as equal, which counts as 1
    level : (p : ℕ) (d : R) → HasAt kind xs key p → ordering_index (cmp (kind.key_of (get_or xs (p - 1) d)) key) ≡ 1
    level p d has = rw (has.2 d) (ap ordering_index (tied_itself (compared kind.order) key))

    -- where a record is below the key, every place of the key is a later one
    pub after : (k : ℕ) (d : R) → k < length xs → cmp (kind.key_of (get_or xs k d)) key ≡ Less → (p : ℕ) → HasAt kind xs key p → k + 1 < p
    after k d h less p has =
        ⊎_elim (λ lt. lt) (λ le. absurd (omega (arith, ranked (p - 1) k d (omega arith) h, level p d has, ap ordering_index less))) (cases_lt (k + 1) p)

    -- where it is above the key, every place of the key is an earlier one
    pub before : (k : ℕ) (d : R) → cmp (kind.key_of (get_or xs k d)) key ≡ Greater → (p : ℕ) → HasAt kind xs key p → p ≤ k
    before k d greater p has =
        ⊎_elim (λ lt. absurd (omega (arith, ranked k (p - 1) d (omega arith) (omega (arith, has.1)), level p d has, ap ordering_index greater))) (λ le. le) (cases_lt k p)

    -- `rest` is a stretch of the list, behind the first `skipped` records, and every place of the key lies in it
    abbrev pub Narrowed : List R → ℕ → Type 0
    Narrowed rest skipped = (skipped + length rest ≤ length xs)
        × ((k : ℕ) (d : R) → k < length rest → get_or rest k d ≡ get_or xs (skipped + k) d)
        × ((p : ℕ) → HasAt kind xs key p → (skipped < p) × (p ≤ skipped + length rest))

    -- at first nothing is skipped
    pub whole : Narrowed xs 0
    whole = (omega arith, λ k d h. grind arith, λ p has. (omega (arith, has.0), omega (arith, has.1)))

    -- where nothing is left, no record has the key
    pub nowhere : (rest : List R) (skipped : ℕ) → Narrowed rest skipped → length rest ≡ 0 → Found kind xs key None
    nowhere rest skipped narrowed none p has = omega (arith, narrowed.2 p has)

    -- what a look at a record of the rest tells
    module _ (rest : List R) (skipped : ℕ) (narrowed : Narrowed rest skipped) (k : ℕ) (x : R) (h : k < length rest) (at : x ≡ get_or rest k x) where
      -- it stands in the list
      stands : x ≡ get_or xs (skipped + k) x
      stands = at ∙ narrowed.1 k x h

      -- it has the key
      pub met : cmp (kind.key_of x) key ≡ Equal → Found kind xs key (Some (skipped + k + 1))
      met equal =
          let inside : skipped + k < length xs = omega (arith, narrowed.0) in
          found (skipped + k) inside (at_read xs (λ y. cmp (kind.key_of y) key ≡ Equal) (skipped + k) x inside stands equal)

      -- it is below the key: what stands behind it is left
      pub upper : cmp (kind.key_of x) key ≡ Less → Narrowed (drop (k + 1) rest) (skipped + k + 1)
      upper less =
          let later = after (skipped + k) x (omega (arith, narrowed.0)) (rw stands at less) in
          let many = length-drop (k + 1) rest in (
            omega (arith, narrowed.0, many),
            λ j d lt. grind (arith, get_or-drop (k + 1) rest j d, narrowed.1 (k + 1 + j) d (omega (arith, many))),
            λ p has. (omega (arith, later p has), omega (arith, many, narrowed.2 p has)),
          )

      -- it is above the key: what stands before it is left
      pub lower : cmp (kind.key_of x) key ≡ Greater → Narrowed (take k rest) skipped
      lower greater =
          let earlier = before (skipped + k) x (rw stands at greater) in
          let many = length-take-le k rest (omega arith) in (
            omega (arith, narrowed.0, many),
            λ j d lt. get_or-take k rest j d (omega (arith, many)) ∙ narrowed.1 j d (omega (arith, many)),
            λ p has. (omega (arith, narrowed.2 p has), omega (arith, many, earlier p has)),
          )
