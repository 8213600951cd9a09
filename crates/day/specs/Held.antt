-- A reading as a type of 32 bits holds it: the reading itself where it fits, else the type's end value.
use Rattle.std.specs.Prelude.{ℕ, cond, ℤ, pos, negsuc, nat_lt}
use Rattle.std.specs.Int.{int_min, int_max}

-- with a sign: the nearer end
abbrev pub held_signed : ℤ → ℤ
held_signed x = int_max (negsuc 2147483647) (int_min (pos 2147483647) x)

-- without a sign: the largest number, also for a negative reading
abbrev pub held_natural : ℤ → ℕ
held_natural (pos n) = cond (nat_lt n 4294967296) n 4294967295
held_natural (negsuc n) = 4294967295
