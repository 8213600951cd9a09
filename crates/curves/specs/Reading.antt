-- What a curve reads at a power, over the list of its points.
use Rattle.std.specs.Prelude.{◌≡◌, ℕ, ◌+◌, ◌-◌, ◌<◌, cond, List, [], ◌∷◌, length, ℤ, pos, ◌+ℤ◌, ◌-ℤ◌, ◌*ℤ◌, ◌≤ℤ◌, ◌<ℤ◌, int_le, int_lt, unsigned_abs, Option, MatchOption}
use Rattle.std.specs.Int.{int_min}
use Rattle.numbers.specs.Checks.{Each, First}
use Rattle.rounding.specs.Nearest.{nearest_to, Nearest}
use Rattle.curves.specs.declared.points.Point.{Point}
use Rattle.curves.specs.Shape.{at}

-- the distance of two powers
abbrev pub apart : ℤ → ℤ → ℕ
apart x y = unsigned_abs (x -ℤ y)

-- the price at x on the straight line from a to b, times their distance: a's price counts by how far x is from b, b's by how far it is from a
abbrev pub line_times : Point → Point → ℤ → ℤ
line_times a b x = a.price *ℤ pos (apart b.power x) +ℤ b.price *ℤ pos (apart x a.power)

-- the nearest cent on that line
unfoldable pub line : Point → Point → ℤ → ℤ
line a b x = nearest_to (line_times a b x) (apart b.power a.power)

-- past the point a, which x is not below
abbrev pub beyond : Point → List Point → ℤ → ℤ
beyond a [] x = a.price
beyond a (b ∷ ps) x = cond (int_lt x b.power) (line a b x) (beyond b ps x)

-- the reading at x
abbrev pub reads : List Point → ℤ → ℤ
reads [] x = pos 0
reads (a ∷ ps) x = cond (int_le x a.power) a.price (beyond a ps x)

-- the same in words: the end price at and beyond either end, and between two neighbours the nearest cent on the straight line
pub record Reads (ps : List Point) (x r : ℤ) : Type 0 where
  pub low : x ≤ℤ (at ps 0).power → r ≡ (at ps 0).price
  pub high : (at ps (length ps - 1)).power ≤ℤ x → r ≡ (at ps (length ps - 1)).price
  pub between : (k : ℕ) → k + 1 < length ps → (at ps k).power ≤ℤ x → x <ℤ (at ps (k + 1)).power →
      Nearest (line_times (at ps k) (at ps (k + 1)) x) (apart (at ps (k + 1)).power (at ps k).power) r

-- the words name one number
abbrev pub Pinned : List Point → ℤ → ℤ → Type 0
Pinned ps x r = (s : ℤ) → Reads ps x s → s ≡ r

-- the power of the point after the first k is not above x
abbrev pub NotAbove : List Point → ℤ → ℕ → Type 0
NotAbove ps x k = (at ps k).power ≤ℤ x

-- the place of the first point whose power is above x, or that there is none
abbrev pub FirstAbove : List Point → ℤ → Option ℕ → Type 0
FirstAbove ps x found = MatchOption found (Each (NotAbove ps x) (length ps)) (First (NotAbove ps x) (length ps))

-- what a base point is priced at: the lesser of its reading and the cap
unfoldable pub price_at : List Point → ℤ → ℤ → ℤ
price_at ps cap x = int_min (reads ps x) cap
