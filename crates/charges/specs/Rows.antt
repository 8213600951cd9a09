-- What a source of one line for each row means.
use Rattle.std.specs.Prelude.{ℕ, zero, suc, ◌+◌, List, [], ◌∷◌, map, slice_get, slice_index, None, Option}
use Rattle.std.specs.List.{range_with_len}
use Rattle.charges.specs.Lines.{Line}

-- each element by its number, the first by k
abbrev pub numbered : {X Y : Type 0} → (ℕ → X → Y) → ℕ → List X → List Y
numbered f k [] = []
numbered f k (x ∷ xs) = f k x ∷ numbered f (k + 1) xs

-- row n, counted from 1, if there is one
abbrev pub row_at : {R : Type 0} → List R → ℕ → Option R
row_at rows zero = None
row_at rows (suc i) = slice_get rows i

-- basis n, counted from 1, where row n rests on f n; 0 where there is no such row
abbrev pub basis_in : {R : Type 0} → (ℕ → R → ℕ) → List R → ℕ → ℕ
basis_in f rows n = slice_index (0 ∷ numbered f 1 rows) n

-- so many lines, line n by f
abbrev pub lines_by : (ℕ → Line) → ℕ → List Line
lines_by f count = map f (range_with_len 1 count)
