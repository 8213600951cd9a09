-- What the places of a layer's table hold.
use Rattle.std.specs.Prelude.{◌≡◌, ℕ, ◌≤◌, get_or, Bool, false, not, List, Contains, ℤ, pos, is_some, Some, None, count_by, find, position, Option, ◌==◌}
use Rattle.std.specs.Option.{option_map, option_or, option_and_then}
use Rattle.charges.specs.declared.figure.Figure.{Figure}
use Rattle.charges.specs.Refusals.{InRange}

-- a place holds the resource r
abbrev pub has_resource : ℕ → Option Figure → Bool
has_resource r None = false
has_resource r (Some held) = held.resource == r

-- the number of the resource at a place, 0 where it is free
abbrev pub number_at : Option Figure → ℕ
number_at None = 0
number_at (Some held) = held.resource

-- the figure at a place, if it holds one
abbrev pub figure_at : Option Figure → Option ℤ
figure_at row = option_map (λ held. held.figure) row

-- the figure that a resource has, if it is held
abbrev pub held_in : List (Option Figure) → ℕ → Option ℤ
held_in rows r = option_and_then figure_at (find (has_resource r) rows)

-- how many resources are held
abbrev pub held_count : List (Option Figure) → ℕ
held_count rows = count_by is_some rows

-- 0 where there is no figure
abbrev pub or_zero : Option ℤ → ℤ
or_zero (Some f) = f
or_zero None = pos 0

-- each resource is held at one place at most
abbrev pub Once : List (Option Figure) → Type 0
Once rows = (r : ℕ) → count_by (has_resource r) rows ≤ 1

-- what is held is a resource's number, with a figure in range
abbrev pub Known : List (Option Figure) → Type 0
Known rows = (held : Figure) → Contains rows (Some held) → InRange held.resource held.figure

-- every place from n on is free
abbrev pub FreeFrom : ℕ → List (Option Figure) → Type 0
FreeFrom n rows = (i : ℕ) → n ≤ i → get_or rows i None ≡ None

-- a place holds nothing
abbrev pub is_free : Option Figure → Bool
is_free row = not (is_some row)

-- the place to hold a resource: its own, or else a free one
abbrev pub place_for : List (Option Figure) → ℕ → Option ℕ
place_for rows r = option_or (position (has_resource r) rows) (position is_free rows)
