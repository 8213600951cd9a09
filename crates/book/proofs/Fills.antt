-- A part of a table that was written.
use Rattle.std.proofs.Common.{◌≡◌, ℕ, ◌+◌, ◌-◌, ◌<◌, ◌≤◌, ◌⊎◌, List, length, get_or, drop, ◌++◌, replicate, ap, ◌∙◌, inl, inr, arith, rules}
use lib.ListN.{length-replicate}
use Rattle.std.proofs.lemmas.List.{get_or-replicate, places}
use borrow.Rule.Slice.PartMut.{put_mid}
use Rattle.law.specs.Settlements.{Among}
use Rattle.book.specs.declared.rows.Entry.{Entry}
use Rattle.book.specs.Model.{blank}

-- the places from, .. from + n - 1 are y, and every other is as before
abbrev pub Cleared : {X : Type 0} → X → ℕ → ℕ → List X → List X → Type 0
Cleared y from n before after = ((j : ℕ) → from ≤ j → j < from + n → get_or after j y ≡ y) × ((j : ℕ) → (j < from) ⊎ (from + n ≤ j) → get_or after j y ≡ get_or before j y)

-- of the places from, .. from + n - 1 the one at p - 1 is f p, and every place elsewhere is as before
abbrev pub NowAt : ℕ → ℕ → (ℕ → Entry) → List Entry → List Entry → Type 0
NowAt from n f before after = ((p : ℕ) → Among p n → get_or after (from + (p - 1)) blank ≡ f p) × ((j : ℕ) → (j < from) ⊎ (from + n ≤ j) → get_or after j blank ≡ get_or before j blank)

module _ {X : Type 0} (y : X) (from k n : ℕ) (xs ys : List X) (same : k ≡ n) (room : from + n ≤ length xs) (many : length ys ≡ n) where
  pub part_inside : (j : ℕ) → j < n → get_or (put_mid from k xs ys) (from + j) y ≡ get_or ys j y
  part_inside j h = search (rules, places)

  pub part_outside : (j : ℕ) → (j < from) ⊎ (from + n ≤ j) → get_or (put_mid from k xs ys) j y ≡ get_or xs j y
  part_outside j (inl h) = search (rules, places)
  part_outside j (inr h) = search (rules, places)

  pub part_length : length (put_mid from k xs ys) ≡ length xs
  part_length = search (rules, places)

pub cleared_part : {X : Type 0} (y : X) (from k n : ℕ) (xs ys : List X) → k ≡ n → from + n ≤ length xs → ys ≡ replicate n y → Cleared y from n xs (put_mid from k xs ys)
cleared_part y from k n xs ys same room all = (λ j low high. at j (j - from) low (omega arith) (omega arith), part_outside y from k n xs ys same room many)
  where
    many : length ys ≡ n
    many = ap length all ∙ simp length-replicate

    at : (j i : ℕ) → from ≤ j → i < n → from + i ≡ j → get_or (put_mid from k xs ys) j y ≡ y
    at j i low lt e = rw (← e) (part_inside y from k n xs ys same room many i lt ∙ ap (λ zs. get_or zs i y) all ∙ get_or-replicate n i y y lt)

pub cleared_start : {X : Type 0} (y : X) (n : ℕ) (xs ys : List X) → n ≤ length xs → ys ≡ replicate n y → Cleared y 0 n xs (ys ++ drop n xs)
cleared_start y n xs ys room all = rw all (λ j low high. search (rules, places), λ j o. search (rules, places))

pub written_part : (from k n : ℕ) (f : ℕ → Entry) (xs ys : List Entry) → k ≡ n → from + n ≤ length xs → length ys ≡ n → ((p : ℕ) → Among p n → get_or ys (p - 1) blank ≡ f p) → NowAt from n f xs (put_mid from k xs ys)
written_part from k n f xs ys same room many at = (λ p a. part_inside blank from k n xs ys same room many (p - 1) (omega arith) ∙ at p a, part_outside blank from k n xs ys same room many)
