-- The fields of a line. While they are read, what is left of the line is nothing, or a comma with the next field behind it.
use Rattle.std.specs.Prelude.{◌≡◌, ℕ, ◌+◌, length, Bool, true, false, cond, not, List, [], ◌∷◌, Some, None, Option, ◌==◌}
use Rattle.text.specs.Text.{front, past, trimmed, cut}

-- what separates fields
abbrev pub comma : ℕ → Bool
comma c = c == 44

-- a field ends at a comma
abbrev pub in_field : ℕ → Bool
in_field c = not (comma c)

-- the fields that are left, blanks and all
abbrev pub left : List ℕ → List (List ℕ)
left [] = []
left (c ∷ s) = cond (comma c) (cut comma s) []

-- the next field's text, without the blanks around it
abbrev pub next_text : List ℕ → Option (List ℕ)
next_text [] = None
next_text (c ∷ s) = cond (comma c) (Some (trimmed (front in_field s))) None

-- what is left behind the next field
abbrev pub next_rest : List ℕ → List ℕ
next_rest [] = []
next_rest (c ∷ s) = past in_field s

-- what is left once the next field is read, if it could be read
abbrev pub moved : Bool → List ℕ → List ℕ
moved true s = next_rest s
moved false s = s

-- The next field was read, and one field fewer is left; or it was not, and it stays.
pub record Passes (read : Bool) (before after : List ℕ) : Type 0 where
  pub rest : after ≡ moved read before
  pub count : read ≡ true → length (left before) ≡ 1 + length (left after)
