-- Texts as lists of bytes: blanks, the front of a text, and what stands between separators.
use Rattle.std.specs.Prelude.{ℕ, Bool, true, false, cond, not, ◌&&◌, ◌||◌, List, [], ◌∷◌, Some, None, Option, ◌==◌}

-- a space or a tab
abbrev pub blank : ℕ → Bool
blank c = c == 32 || c == 9

-- a text without a byte
abbrev pub is_empty : List ℕ → Bool
is_empty [] = true
is_empty (c ∷ s) = false

-- each byte passes
abbrev pub every : (ℕ → Bool) → List ℕ → Bool
every p [] = true
every p (c ∷ s) = p c && every p s

-- the longest front of a text whose bytes pass
abbrev pub front : (ℕ → Bool) → List ℕ → List ℕ
front p [] = []
front p (c ∷ s) = cond (p c) (c ∷ front p s) []

-- what follows the longest front whose bytes pass
abbrev pub past : (ℕ → Bool) → List ℕ → List ℕ
past p [] = []
past p (c ∷ s) = cond (p c) (past p s) (c ∷ s)

-- a byte other than the one that ends a text
abbrev pub until : ℕ → ℕ → Bool
until end c = not (c == end)

-- a text without the blanks at its end
abbrev pub trim_end : List ℕ → List ℕ
trim_end [] = []
trim_end (c ∷ s) = cond (every blank (c ∷ s)) [] (c ∷ trim_end s)

-- a text without the blanks around it
abbrev pub trimmed : List ℕ → List ℕ
trimmed s = trim_end (past blank s)

-- one byte more at the front of the first piece
abbrev pub grow : ℕ → List (List ℕ) → List (List ℕ)
grow c [] = (c ∷ []) ∷ []
grow c (f ∷ fs) = (c ∷ f) ∷ fs

-- the pieces of a text between its separators, one more than there are separators
abbrev pub cut : (ℕ → Bool) → List ℕ → List (List ℕ)
cut sep [] = [] ∷ []
cut sep (c ∷ s) = cond (sep c) ([] ∷ cut sep s) (grow c (cut sep s))

-- what f makes of the value, where there is one
abbrev pub and_then : {A B : Type 0} → Option A → (A → Option B) → Option B
and_then None f = None
and_then (Some x) f = f x
