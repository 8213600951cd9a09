-- What a source's lines add up to.
use Rattle.std.specs.Prelude.{ℕ, cond, List, map, ℤ, pos, Ok, Err, ◌==◌}
use Rattle.std.specs.List.{range_with_len}
use Rattle.numbers.specs.Sums.{signed_sum}
use Rattle.charges.specs.Lines.{Line}

-- a line's amount, 0 for a fault
abbrev pub amount_of : Line → ℤ
amount_of (Ok e) = e.2
amount_of (Err f) = pos 0

-- what a line gives party p: its amount, if the entry is that party's
abbrev pub amount_for : ℕ → Line → ℤ
amount_for p (Ok e) = cond (e.1 == p) e.2 (pos 0)
amount_for p (Err f) = pos 0

-- T, the total of all amounts
abbrev pub total_of : List Line → ℤ
total_of ls = signed_sum amount_of ls

-- the sum of party p's entries
abbrev pub sum_for : ℕ → List Line → ℤ
sum_for p ls = signed_sum (amount_for p) ls

-- that of each of so many parties, party 1 first
abbrev pub party_sums : ℕ → List Line → List ℤ
party_sums parties ls = map (λ p. sum_for p ls) (range_with_len 1 parties)
