-- The limits of what a rule is asked.
use Rattle.std.proofs.Common.{ℕ, ◌+◌, ◌<◌, ◌≤◌, List, length, get_or, take, ℤ, pos, nat_abs, sum, add-mul, lt_of_mul-lt-mul_right, mul-le-mul_left, arith}
use borrow.Author.Differences.{ints}
use Rattle.std.proofs.lemmas.List.Sums.{sum_by-take-le, get_or-le-sum_by}
use Rattle.std.proofs.ByRecursion.{sum_by_le}
use Rattle.sharing.specs.Rules.{Asked, Fair}
use Rattle.numbers.proofs.Integers.{abs_scaled}

pub asked_sum : (total : ℤ) (loads : List ℕ) → Asked total loads → sum loads ≤ 1280000000
asked_sum total loads a = omega (arith, sum_by_le (λ x. x) 20000000 loads a.each, a.few)

pub asked_take : (total : ℤ) (loads : List ℕ) (k : ℕ) → Asked total loads → sum (take k loads) ≤ sum loads
asked_take total loads k a = sum_by-take-le (λ x. x) loads k

-- no share is beyond the total
pub fair_within : (total : ℤ) (loads : List ℕ) (shares : List ℤ) (k : ℕ) → Fair total loads shares → k < length loads → nat_abs (get_or shares k (pos 0)) ≤ nat_abs total
fair_within total loads shares k fair h =
    let s : ℤ = get_or shares k (pos 0) in
    let lt : nat_abs s < nat_abs total + 1 = lt_of_mul-lt-mul_right (sum loads)
    (omega (arith, ints, fair.near k h, abs_scaled s (sum loads), abs_scaled total (get_or loads k 0), add-mul (nat_abs total) 1 (sum loads), mul-le-mul_left (nat_abs total) (get_or-le-sum_by (λ x. x) loads k 0 h))) in
    omega arith
