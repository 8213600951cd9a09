-- The numbers that texts write.
use Rattle.std.specs.Prelude.{◌≡◌, ℕ, ◌+◌, ◌-◌, ◌*◌, Bool, true, false, cond, not, ◌&&◌, ◌||◌, List, [], ◌∷◌, ℤ, pos, neg_ℤ, Some, None, Option, ◌==◌, nat_le, nat_lt}
use Rattle.text.specs.Text.{every, front, past, until, trim_end, and_then}

-- a decimal digit
abbrev pub digit : ℕ → Bool
digit c = nat_le 48 c && nat_le c 57

-- the number that digits write after the number n
abbrev pub read_on : ℕ → List ℕ → ℕ
read_on n [] = n
read_on n (c ∷ s) = read_on (n * 10 + (c - 48)) s

-- the number that one digit or more write; none above 2 ^ 63, which is outside of every kind of number
abbrev pub magnitude : List ℕ → Option ℕ
magnitude [] = None
magnitude (c ∷ s) = cond (nat_le (read_on 0 (c ∷ s)) 9223372036854775808) (Some (read_on 0 (c ∷ s))) None

-- the number that a text of digits and nothing else writes
abbrev pub digits_in : List ℕ → Option ℕ
digits_in s = cond (every digit s) (magnitude s) None

-- The digits at the front of a text write the value, and the rest follows them.
pub record Leads (text : List ℕ) (value : ℕ) (rest : List ℕ) : Type 0 where
  pub written : digits_in (front digit text) ≡ Some value
  pub follows : rest ≡ past digit text

-- a byte that stands in no number, and so can end one
abbrev pub ends_number : ℕ → Bool
ends_number c = not (digit c || c == 45)

-- What stands before the next byte `end`, or the text's end, is digits with blanks behind them at most; they write the value, and the rest
-- follows.
pub record Padded (end : ℕ) (text : List ℕ) (value : ℕ) (rest : List ℕ) : Type 0 where
  pub digits : every digit (trim_end (front (until end) text)) ≡ true
  pub written : digits_in (trim_end (front (until end) text)) ≡ Some value
  pub follows : rest ≡ past (until end) text

-- A kind of number says which number a minus or none and a magnitude make, if any.

-- an integer of 64 bits
abbrev pub signed64 : Bool → ℕ → Option ℤ
signed64 true n = cond (nat_le n 9223372036854775808) (Some (neg_ℤ (pos n))) None
signed64 false n = cond (nat_lt n 9223372036854775808) (Some (pos n)) None

-- a natural number of 32 bits, which takes no minus
abbrev pub natural32 : Bool → ℕ → Option ℕ
natural32 true n = None
natural32 false n = cond (nat_lt n 4294967296) (Some n) None

-- the number of that kind that a text writes: digits, with at most one minus before them
abbrev pub number_in : {A : Type 0} → (Bool → ℕ → Option A) → List ℕ → Option A
number_in kind [] = None
number_in kind (c ∷ s) = cond (c == 45) (and_then (digits_in s) (kind true)) (and_then (digits_in (c ∷ s)) (kind false))

-- the same where an empty text stands for 0
abbrev pub number_or_zero_in : {A : Type 0} → (Bool → ℕ → Option A) → List ℕ → Option A
number_or_zero_in kind [] = kind false 0
number_or_zero_in kind (c ∷ s) = number_in kind (c ∷ s)
