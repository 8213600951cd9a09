-- Numbers outside a range, and lists of numbers that stay within a limit.
use Rattle.std.specs.Prelude.{ℕ, ◌<◌, ◌≤◌, Bool, ◌||◌, List, ℤ, pos, int_lt, slice_index_or, unsigned_abs}
use Rattle.std.specs.List.{list_any}

-- a number is below low or above high
abbrev pub outside : ℤ → ℤ → ℤ → Bool
outside low high x = int_lt x low || int_lt high x

-- some number of a list is
abbrev pub strays : ℤ → ℤ → List ℤ → Bool
strays low high xs = list_any (outside low high) xs

-- none of the first m numbers is beyond most, either way
abbrev pub Small : ℕ → ℕ → List ℤ → Type 0
Small most m xs = (k : ℕ) → k < m → unsigned_abs (slice_index_or xs k (pos 0)) ≤ most
