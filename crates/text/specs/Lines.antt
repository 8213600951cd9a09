-- The lines of a text.
use Rattle.std.specs.Prelude.{ℕ, Bool, true, cond, not, ◌&&◌, List, [], ◌∷◌, map, drop, ◌==◌}
use Rattle.text.specs.Text.{blank, is_empty, front, past, grow}

-- a line ends at an LF
abbrev pub in_line : ℕ → Bool
in_line c = not (c == 10)

-- a line without one CR at its end
abbrev pub without_cr : List ℕ → List ℕ
without_cr [] = []
without_cr (c ∷ s) = cond (c == 13 && is_empty s) [] (c ∷ without_cr s)

-- the first line of a text
abbrev pub first_line : List ℕ → List ℕ
first_line s = without_cr (front in_line s)

-- what follows the first line and its LF
abbrev pub after_line : List ℕ → List ℕ
after_line s = drop 1 (past in_line s)

-- what the LFs of a text end, and what stands behind the last of them, if anything does
abbrev pub ended : List ℕ → List (List ℕ)
ended [] = []
ended (c ∷ s) = cond (c == 10) ([] ∷ ended s) (grow c (ended s))

-- all the lines of a text
abbrev pub lines_of : List ℕ → List (List ℕ)
lines_of s = map without_cr (ended s)

-- a text that is empty or begins with `#`
abbrev pub is_comment : List ℕ → Bool
is_comment [] = true
is_comment (c ∷ s) = c == 35

-- a line that is passed over; blanks at its front do not count
abbrev pub passed_over : List ℕ → Bool
passed_over s = is_comment (past blank s)
