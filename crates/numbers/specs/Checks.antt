-- Tables of checks: which check refuses a call, with its number and its place.
use Rattle.std.specs.Prelude.{◌≡◌, ℕ, ◌-◌, ◌<◌, ◌≤◌, ◌⊎◌, List, [], ◌∷◌, Result, MatchResult}

-- each of the first n places is good
abbrev pub Each : (ℕ → Type 0) → ℕ → Type 0
Each Good n = (k : ℕ) → k < n → Good k

-- k is the first of n places that is not good
abbrev pub First : (ℕ → Type 0) → ℕ → ℕ → Type 0
First Good n k = (k < n) × (Good k → ⊥) × Each Good k

-- a check has a number; it asks one thing of the whole, or the same of each of n places
pub data Check : Type 1 where
  whole : ℕ → Type 0 → Check
  each : ℕ → ℕ → (ℕ → Type 0) → Check

-- what the check asks holds
abbrev pub Passes : Check → Type 0
Passes (whole number Good) = Good
Passes (each number n Good) = Each Good n

-- the check refuses with its number; the place is that of the first offender, counted from 1, or 0 for the whole
abbrev pub Refuses : Check → ℕ → ℕ → Type 0
Refuses (whole number Good) refused place = (refused ≡ number) × (place ≡ 0) × (Good → ⊥)
Refuses (each number n Good) refused place = (refused ≡ number) × (1 ≤ place) × First Good n (place - 1)

-- every check of the table passes
abbrev pub Passed : List Check → Type 0
Passed [] = Unit {0}
Passed (c ∷ cs) = Passes c × Passed cs

-- the first check of the table that does not pass refuses with this number and place
abbrev pub Refused : List Check → ℕ → ℕ → Type 0
Refused [] refused place = ⊥
Refused (c ∷ cs) refused place = Refuses c refused place ⊎ (Passes c × Refused cs refused place)

-- a table gives one answer: where it refuses it does not pass, and it refuses with no other number and at no other place
pub record OneAnswer (cs : List Check) (refused place : ℕ) : Type 0 where
  pub blocks : Refused cs refused place → Passed cs → ⊥
  pub alone : (number at : ℕ) → Refused cs refused place → Refused cs number at → (refused ≡ number) × (place ≡ at)

-- what one check of the table answers: it passes, or its refusal tells its number and place
abbrev pub Checked : {T E : Type 0} → (E → ℕ) → (E → ℕ) → Check → Result T E → Type 0
Checked number_of place_of check answer = MatchResult answer (λ _. Passes check) (λ refusal. Refuses check (number_of refusal) (place_of refusal))

-- what a call under a table of checks answers: its value, which means what it should, where every check passes; else the number and
-- place of the first that does not
abbrev pub Answered : {T E : Type 0} → List Check → (E → ℕ) → (E → ℕ) → (T → Type 0) → Result T E → Type 0
Answered cs number_of place_of Means answer = MatchResult answer (λ value. Passed cs × Means value) (λ refusal. Refused cs (number_of refusal) (place_of refusal))

-- a table never gives two answers
abbrev pub Unambiguous : List Check → Type 0
Unambiguous cs = (refused place : ℕ) → OneAnswer cs refused place
