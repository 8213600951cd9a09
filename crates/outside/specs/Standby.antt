-- A fee for standing by: which lines the firm's source has.
use Rattle.std.specs.Prelude.{ℕ, ◌+◌, ◌-◌, cond, ◌||◌, ℤ, pos, ◌*ℤ◌, Ok, Err, nat_lt, unsigned_abs}
use Rattle.std.proofs.lemmas.Bool.{cond_both, ltb-false, or_parts}
use Rattle.charges.specs.declared.fault.Cause.TheVariants.{AmountBeyond, Own}
use Rattle.charges.specs.declared.fault.Layer.TheVariants.{Source}
use Rattle.charges.specs.Faults.{fault_of}
use Rattle.charges.specs.Lines.{Line, Ranged}
use Rattle.outside.specs.declared.standby.Standby.{Standby}

-- the resource of line n
abbrev pub resource_on : Standby → ℕ → ℕ
resource_on s n = s.first + (n - 1)

-- the fee: the rate for each MW
abbrev pub fee : Standby → ℤ
fee s = s.rate *ℤ pos s.power

-- line n: a fault of the firm's own where the run leaves the numbers of resources, and one where the fee is too large
abbrev pub fee_line : Standby → ℕ → Line
fee_line s n =
    cond (nat_lt (resource_on s n) 1 || nat_lt 9999 (resource_on s n)) (Err (fault_of (Own 90) n 1 Source))
    (cond (nat_lt 3000000000 (unsigned_abs (fee s))) (Err (fault_of AmountBeyond n 0 Source))
    (Ok (resource_on s n, s.party, fee s)))

-- each line is within the limits
pub fee_ranged : (s : Standby) (n : ℕ) → Ranged (fee_line s n)
fee_ranged s n =
    cond_both (nat_lt (resource_on s n) 1 || nat_lt 9999 (resource_on s n)) _ _ Ranged (λ _. tt)
    (λ r. let both = or_parts (nat_lt (resource_on s n) 1) (nat_lt 9999 (resource_on s n)) r in
    cond_both (nat_lt 3000000000 (unsigned_abs (fee s))) _ _ Ranged (λ _. tt)
    (λ a. (ltb-false (resource_on s n) 1 both.0, ltb-false 9999 (resource_on s n) both.1, ltb-false 3000000000 (unsigned_abs (fee s)) a)))
