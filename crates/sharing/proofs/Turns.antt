-- What a turn of either rule's loop computes, and what the loop has written.
use Rattle.std.proofs.Common.{◌≡◌, ℕ, ◌+◌, ◌-◌, ◌*◌, ◌/◌, ◌%◌, ◌<◌, Bool, true, false, cond, ◌&&◌, ltb, List, length, get_or, take, ℤ, pos, nat_abs, sum, count_by, ◌∙◌, arith}
use Rattle.std.proofs.lemmas.List.FromFn.{fill_by_all}
use Rattle.std.proofs.lemmas.List.Sums.{sum_by_more}
use Rattle.std.proofs.lemmas.Bool.Decides.{nat_tests}
use Rattle.numbers.specs.Signs.{signed_by}
use Rattle.sharing.specs.Running.{up_to, running}
use Rattle.sharing.specs.Leftover.{broken, missing, part, leftover}

some_left : (a b : ℕ) → ltb 0 (a - b) ≡ ltb b a
some_left a b = grind (arith, nat_tests)

less : (a c : ℕ) (b : Bool) → (a - c) - cond (b && ltb 0 (a - c)) 1 0 ≡ a - (c + cond b 1 0)
less a c true = grind (arith, nat_tests)
less a c false = omega arith

-- what a turn of the loop computes
module _ (m : ℕ) (loads : List ℕ) (i load all left cent : ℕ) (h : i < length loads) (a : load ≡ get_or loads i 0) (e : all ≡ sum loads)
    (f : left ≡ missing m loads - count_by (broken m (sum loads)) (take i loads))
    (g : cent ≡ cond (ltb 0 (m * load % all) && ltb 0 left) 1 0) where
  pub turn_part : m * load / all + cent ≡ part m loads i
  unfolding part
  turn_part = rw (g, f, a, e, some_left)

  pub turn_left : left - cent ≡ missing m loads - count_by (broken m (sum loads)) (take (i + 1) loads)
  turn_left =
      rw (sum_by_more (λ y. cond (broken m (sum loads) y) 1 0) loads i 0 h, g, f, a, e)
      (less (missing m loads) (count_by (broken m (sum loads)) (take i loads)) (broken m (sum loads) (get_or loads i 0)))

-- the running shares
pub running_from : (total z : ℤ) (m : ℕ) (loads : List ℕ) (shares : List ℤ) → z ≡ total → m ≡ nat_abs z → length shares ≡ length loads →
    ((k : ℕ) → k < length loads → get_or shares k (pos 0) ≡ signed_by z (up_to m loads (k + 1) - up_to m loads k)) → shares ≡ running total loads
unfolding running
running_from total z m loads shares e f len each =
    fill_by_all (λ k. signed_by total (up_to (nat_abs total) loads (k + 1) - up_to (nat_abs total) loads k)) shares (length loads) (pos 0) len (λ k h. each k h ∙ rw (f, e))

-- the leftover shares
pub leftover_from : (total z : ℤ) (m : ℕ) (loads : List ℕ) (shares : List ℤ) → z ≡ total → m ≡ nat_abs z → length shares ≡ length loads →
    ((k : ℕ) → k < length loads → get_or shares k (pos 0) ≡ signed_by z (part m loads k)) → shares ≡ leftover total loads
unfolding leftover
leftover_from total z m loads shares e f len each =
    fill_by_all (λ k. signed_by total (part (nat_abs total) loads k)) shares (length loads) (pos 0) len (λ k h. each k h ∙ rw (f, e))
