-- What a settlement is and means: loads, lines, a sharing rule, what it pays and charges; and what a book keeps of it.
use Rattle.std.specs.Prelude.{ℕ, zero, suc, ◌-◌, ◌≤◌, Bool, cond, List, ℤ, pos, ◌+ℤ◌, ◌-ℤ◌, neg_ℤ, Some, None, sum, Option, nat_lt, slice_index, slice_index_or, unsigned_abs}
use Rattle.sharing.specs.Rules.{Asked, Fair}
use Rattle.charges.specs.Lines.{Line}
use Rattle.walk.specs.Totals.{total_of, sum_for}

-- The sum of f over 1, 2, .. n.
abbrev pub over : ℕ → (ℕ → ℤ) → ℤ
over zero f = pos 0
over (suc n) f = over n f +ℤ f (suc n)

-- k is one of 1, 2, .. n.
abbrev pub Among : ℕ → ℕ → Type 0
Among k n = (1 ≤ k) × (k ≤ n)

-- By how much two amounts differ.
abbrev pub apart : ℤ → ℤ → ℕ
apart a b = unsigned_abs (a -ℤ b)

-- What a sharing rule means: for a total and a list of loads, one list of shares.
abbrev pub Rule : Type 0
Rule = ℤ → List ℕ → List ℤ

-- A rule that keeps the laws wherever it may be asked.
abbrev pub Lawful : Rule → Type 0
Lawful rule = (total : ℤ) (loads : List ℕ) → Asked total loads → Fair total loads (rule total loads)

-- What a settle or restate brings: loads, the source's lines and the rule, as they then mean.
pub record Settlement : Type 0 where
  pub loads : List ℕ
  pub lines : List Line
  pub rule : Rule

-- L, the sum of all loads.
abbrev pub all_load : Settlement → ℕ
all_load s = sum s.loads

-- The load of a party.
abbrev pub load_of : Settlement → ℕ → ℕ
load_of s p = slice_index s.loads (p - 1)

-- What was paid out: -T.
abbrev pub paid_out : Settlement → ℤ
paid_out s = neg_ℤ (total_of s.lines)

-- A party's source lines: the sum of the amounts of the entries under its number.
abbrev pub source_lines : Settlement → ℕ → ℤ
source_lines s p = sum_for p s.lines

-- With load, the party's share of -T; with none, 0.
abbrev pub charge_of : Settlement → ℕ → ℤ
charge_of s p = cond (nat_lt 0 (all_load s)) (slice_index_or (s.rule (paid_out s) s.loads) (p - 1) (pos 0)) (pos 0)

-- The three entries that a book keeps for a slot and a party.
pub record Entries : Type 0 where
  pub load : ℕ
  pub paid : ℤ
  pub charged : ℤ

-- No load, nothing paid, nothing charged.
abbrev pub zeros : Entries
zeros = record { load = 0; paid = pos 0; charged = pos 0 }

-- The entries that a settlement posts for a party; zeros where none stands.
abbrev pub posted : Option Settlement → ℕ → Entries
posted None p = zeros
posted (Some s) p = record { load = load_of s p; paid = source_lines s p; charged = charge_of s p }

-- A book: how many parties and intervals, which slots (type, interval) stand, and the entries of each slot and party.
pub record Book : Type 0 where
  pub parties : ℕ
  pub intervals : ℕ
  pub stands : ℕ → ℕ → Bool
  pub keeps : ℕ → ℕ → ℕ → Entries

-- A slot: one of three charge types in one of the intervals.
abbrev pub SlotOf : ℕ → ℕ → ℕ → Type 0
SlotOf intervals t i = Among t 3 × Among i intervals

-- The sum of f over all slots of a book of so many intervals.
abbrev pub over_slots : ℕ → (ℕ → ℕ → ℤ) → ℤ
over_slots intervals f = over 3 (λ t. over intervals (λ i. f t i))
