-- Lists of numbers in a field.
use Rattle.std.specs.Prelude.{◌≡◌, ℕ, ◌≤◌, Bool, not, List, [], ◌∷◌, ◌++◌, map, take, Some, None, Ok, Err, Option, Result, ◌==◌}
use Rattle.text.specs.declared.fields.Fault.{Fault}
use Rattle.text.specs.declared.fields.Fault.TheVariants.{Malformed, Memory}
use Rattle.text.specs.Text.{trimmed, cut, and_then}
use Rattle.text.specs.Numbers.{number_in}

-- what separates the items of a list
abbrev pub semicolon : ℕ → Bool
semicolon c = c == 59

-- an item ends at a semicolon
abbrev pub in_item : ℕ → Bool
in_item c = not (semicolon c)

-- x before the others, where there are others
abbrev pub cons_to : {A : Type 0} → Option (List A) → A → Option (List A)
cons_to others x = and_then others (λ xs. Some (x ∷ xs))

-- the numbers that texts write, one each; none where one of them writes no number
abbrev pub numbers_in : {A : Type 0} → (Bool → ℕ → Option A) → List (List ℕ) → Option (List A)
numbers_in kind [] = Some []
numbers_in kind (t ∷ ts) = and_then (number_in kind t) (cons_to (numbers_in kind ts))

-- the list that a field's text writes: numbers between semicolons, blanks around them; an empty text is an empty list
abbrev pub list_in : {A : Type 0} → (Bool → ℕ → Option A) → List ℕ → Option (List A)
list_in kind [] = Some []
list_in kind (c ∷ s) = numbers_in kind (map trimmed (cut semicolon (c ∷ s)))

-- Numbers were to be read behind those `before`, with room for so many in all; `after` stand there then, as many as `size`.
-- The numbers of the list follow; or there is no list, and the field is told; or the room was full.
abbrev pub ListRead : {A X : Type 0} → Option (List A) → ℕ → ℕ → List A → List A → ℕ → Result X Fault → Type 0
ListRead {A} list field room before after size (Ok _) = (xs : List A) × (list ≡ Some xs) × (after ≡ before ++ xs)
ListRead list field room before after size (Err (Malformed k)) = (list ≡ None) × (k ≡ field)
ListRead list field room before after size (Err Memory) = room ≤ size

-- x before the others, where there is an x
abbrev pub lead : {A : Type 0} → Option A → List A → List A
lead None xs = []
lead (Some x) xs = x ∷ xs

-- the numbers that the first texts write, up to a text that writes none
abbrev pub leading : {A : Type 0} → (Bool → ℕ → Option A) → List (List ℕ) → List A
leading kind [] = []
leading kind (t ∷ ts) = lead (number_in kind t) (leading kind ts)

-- the numbers in a field's text up to the first fault; none where no field is left
abbrev pub front_in : {A : Type 0} → (Bool → ℕ → Option A) → Option (List ℕ) → List A
front_in kind None = []
front_in kind (Some text) = leading kind (map trimmed (cut semicolon text))

-- Where reading stopped, nothing that stood `before` is lost: behind it stand the numbers up to the fault, or the first of them where the room was full.
abbrev pub Stopped : {A X : Type 0} → List A → List A → List A → Result X Fault → Type 0
Stopped numbers before after (Ok _) = Unit {0}
Stopped numbers before after (Err (Malformed k)) = after ≡ before ++ numbers
Stopped numbers before after (Err Memory) = (n : ℕ) × (after ≡ before ++ take n numbers)
