-- Kinds of records that have a key, lists of them in rising key order, and what a look-up answers.
use Rattle.std.specs.Prelude.{◌≡◌, ℕ, ◌-◌, ◌≤◌, Bool, true, ◌||◌, List, length, Some, None, Option, ◌==◌, slice_index_or}
use Rattle.std.specs.Ordering.{is_lt}
use Rattle.numbers.specs.Checks.{Each}
use Rattle.directory.specs.Orders.{Order}

-- how records R with keys K are kept: a record's key, the order of keys, which records are well-formed, and how many there may be
pub record Kind (R K : Type 0) : Type 0 where
  pub key_of : R → K
  pub order : Order K
  pub formed : R → Bool
  pub most : ℕ

module _ {R K : Type 0} (kind : Kind R K) where
  -- the record after the first k is well-formed
  abbrev pub Formed : List R → ℕ → Type 0
  Formed xs k = (d : R) → kind.formed (slice_index_or xs k d) ≡ true

  -- it is the first record, or its key is above the one before
  abbrev pub Above : List R → ℕ → Type 0
  Above xs k = (d : R) → (k == 0 || is_lt (kind.order.cmp (kind.key_of (slice_index_or xs (k - 1) d)) (kind.key_of (slice_index_or xs k d)))) ≡ true

  -- the keys rise
  abbrev pub Rising : List R → Type 0
  Rising xs = Each (Above xs) (length xs)

  -- the record at this place, counted from 1, has this key
  abbrev pub HasAt : List R → K → ℕ → Type 0
  HasAt xs key place = (1 ≤ place) × (place ≤ length xs) × ((d : R) → kind.key_of (slice_index_or xs (place - 1) d) ≡ key)

  -- what a look-up finds among rising keys: the one place of the key, or that no record has it
  abbrev pub Found : List R → K → Option ℕ → Type 0
  Found xs key (Some place) = HasAt xs key place × ((other : ℕ) → HasAt xs key other → other ≡ place)
  Found xs key None = (place : ℕ) → HasAt xs key place → ⊥
