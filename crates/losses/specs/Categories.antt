-- What operation and maintenance cost in each category of resources, in cents per MWh.
use Rattle.std.specs.Prelude.{ℕ, ◌-◌, List, [], ◌∷◌, slice_index}

-- from category 1 to category 12
abbrev pub category_costs : List ℕ
category_costs = 315 ∷ 340 ∷ 372 ∷ 394 ∷ 405 ∷ 440 ∷ 468 ∷ 509 ∷ 545 ∷ 580 ∷ 616 ∷ 650 ∷ []

-- in one category
abbrev pub category_cost : ℕ → ℕ
category_cost category = slice_index category_costs (category - 1)
