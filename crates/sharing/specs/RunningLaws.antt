-- Why the running rule keeps the laws: what any run of neighbours gets together. One party is the run of length one, all of them the run from the first.
use Rattle.std.specs.Prelude.{◌≡◌, ℕ, zero, suc, ◌+◌, ◌-◌, ◌*◌, ◌/◌, ◌<◌, ◌≤◌, List, length, take, drop, ℤ, pos, ◌+ℤ◌, sum, slice_index, slice_index_or, unsigned_abs}
use Rattle.std.proofs.Common.{sym, ◌∙◌, subst, add-one, add-mul, mul-add, mul-zero, zero-add, le_of_mul-le-mul_right}
use Rattle.std.proofs.Math.Path.{ap}
use native.Mathlib.Omega.{arith}
use Rattle.std.proofs.Math.Nat.{div-mul-le_self, lt-div-mul-add, mul-le-mul_left, mul-div_cancel, zero-div}
use Rattle.std.proofs.lemmas.List.{take_all, drop_more}
use Rattle.std.proofs.lemmas.List.FromFn.{length-map-range_with_len, get_or-map-range_with_len}
use Rattle.std.proofs.lemmas.List.Sums.{sum_by-append, sum_by-take-le, sum_by_more}
use Rattle.std.proofs.lemmas.Nat.{le-div}
use Rattle.numbers.specs.Signs.{signed_by}
use Rattle.numbers.proofs.Integers.{signed_add, signed_zero, signed_self, signed_gap}
use Rattle.numbers.specs.Sums.{signed_total}
use Rattle.numbers.proofs.Sums.{signed_sum_more, take_run}
use Rattle.sharing.specs.Rules.{Asked, Fair}
use Rattle.sharing.specs.Running.{up_to, running}

sum_run : (xs : List ℕ) (i j : ℕ) → sum (take (i + j) xs) ≡ sum (take i xs) + sum (take j (drop i xs))
sum_run xs i j = ap sum (take_run xs i j) ∙ sum_by-append (λ x. x) (take i xs) (take j (drop i xs))

sum_one : (xs : List ℕ) (k : ℕ) → k < length xs → sum (take 1 (drop k xs)) ≡ slice_index xs k
sum_one xs k h = ap (λ l. sum (take 1 l)) (drop_more xs k 0 h) ∙ zero-add (slice_index xs k)

module _ (m : ℕ) (loads : List ℕ) (loaded : 0 < sum loads) where
  pub up_to_low : (k : ℕ) → up_to m loads k * sum loads ≤ m * sum (take k loads)
  unfolding up_to
  up_to_low k = div-mul-le_self (m * sum (take k loads)) (sum loads)

  pub up_to_high : (k : ℕ) → m * sum (take k loads) < up_to m loads k * sum loads + sum loads
  unfolding up_to
  up_to_high k = lt-div-mul-add loaded

  pub up_to_zero : up_to m loads 0 ≡ 0
  unfolding up_to
  up_to_zero = ap (λ n. n / sum loads) (mul-zero m) ∙ zero-div (sum loads)

  pub up_to_all : up_to m loads (length loads) ≡ m
  unfolding up_to
  up_to_all = ap (λ l. m * sum l / sum loads) (take_all (length loads) loads (omega arith)) ∙ mul-div_cancel m loaded

  pub up_to_rises : (k j : ℕ) → up_to m loads k ≤ up_to m loads (k + j)
  unfolding up_to
  up_to_rises k j =
      let run : sum (take (k + j) loads) ≡ sum (take k loads) + sum (take j (drop k loads)) = sum_run loads k j in
      let le : sum (take k loads) ≤ sum (take (k + j) loads) = omega arith in
      le-div (up_to m loads k) (m * sum (take (k + j) loads)) (sum loads) loaded
      (omega (arith, up_to_low k, mul-le-mul_left m le))

  pub up_to_le : (k : ℕ) → up_to m loads k ≤ m
  up_to_le k = le_of_mul-le-mul_right {k = sum loads} (omega (arith, up_to_low k, mul-le-mul_left m (sum_by-take-le (λ x. x) loads k))) loaded

  -- what a turn of the loop computes
  pub up_to_step : (i b all : ℕ) → i < length loads → b ≡ sum (take i loads) → all ≡ sum loads → m * (b + slice_index loads i) / all ≡ up_to m loads (i + 1)
  unfolding up_to
  up_to_step i b all h e f = rw (f, e, ← sum_by_more (λ x. x) loads i 0 h)

  -- w, what a run gets, is less than a cent from its exact share
  pub run_near : (i j w : ℕ) → up_to m loads i + w ≡ up_to m loads (i + j) →
      (w * sum loads - m * sum (take j (drop i loads))) + (m * sum (take j (drop i loads)) - w * sum loads) < sum loads
  run_near i j w e =
      let x : ℕ = sum (take i loads) in
      let y : ℕ = sum (take j (drop i loads)) in
      let split : m * sum (take (i + j) loads) ≡ m * x + m * y = ap (λ n. m * n) (sum_run loads i j) ∙ mul-add m x y in
      let paid : up_to m loads (i + j) * sum loads ≡ up_to m loads i * sum loads + w * sum loads = ap (λ n. n * sum loads) (sym e) ∙ add-mul (up_to m loads i) w (sum loads) in
      omega (arith, up_to_low i, up_to_high i, up_to_low (i + j), up_to_high (i + j))

module _ (total : ℤ) (loads : List ℕ) (asked : Asked total loads) where
  loaded : 0 < sum loads
  loaded = asked.loaded

  pub running_length : length (running total loads) ≡ length loads
  unfolding running
  running_length = length-map-range_with_len _ 0 (length loads)

  pub running_at : (k : ℕ) → k < length loads → slice_index_or (running total loads) k (pos 0) ≡ signed_by total (up_to (unsigned_abs total) loads (k + 1) - up_to (unsigned_abs total) loads k)
  unfolding running
  running_at k h = get_or-map-range_with_len _ 0 (length loads) k k (pos 0) h (omega arith)

  -- the first k get what the first k loads come to
  pub running_first : (k : ℕ) → k ≤ length loads → signed_total (take k (running total loads)) ≡ signed_by total (up_to (unsigned_abs total) loads k)
  running_first zero h = sym (ap (signed_by total) (up_to_zero (unsigned_abs total) loads loaded) ∙ signed_zero total)
  running_first (suc k) h =
      let m : ℕ = unsigned_abs total in
      let lt : k < length loads = omega arith in
      let lt2 : k < length (running total loads) = omega (arith, running_length) in
      let rise : up_to m loads k + (up_to m loads (k + 1) - up_to m loads k) ≡ up_to m loads (k + 1) = omega (arith, up_to_rises m loads loaded k 1) in
      subst (λ n. signed_total (take n (running total loads)) ≡ signed_by total (up_to m loads n)) (add-one k)
      (signed_sum_more (λ x. x) (running total loads) k (pos 0) lt2
      ∙ ap (λ z. z +ℤ slice_index_or (running total loads) k (pos 0)) (running_first k (omega arith))
      ∙ ap (λ z. signed_by total (up_to m loads k) +ℤ z) (running_at k lt)
      ∙ signed_add total (up_to m loads k) (up_to m loads (k + 1) - up_to m loads k)
      ∙ ap (signed_by total) rise)

  pub running_fair : Fair total loads (running total loads)
  running_fair = record {
    count = running_length;
    whole = ap signed_total (sym (take_all (length loads) (running total loads) (omega (arith, running_length))))
        ∙ running_first (length loads) (omega arith)
        ∙ ap (signed_by total) (up_to_all (unsigned_abs total) loads loaded)
        ∙ signed_self total;
    near = λ k h.
        let m : ℕ = unsigned_abs total in
        let rise : up_to m loads k + (up_to m loads (k + 1) - up_to m loads k) ≡ up_to m loads (k + 1) = omega (arith, up_to_rises m loads loaded k 1) in
        rw (running_at k h, signed_gap, ← sum_one loads k h) (run_near m loads loaded k 1 (up_to m loads (k + 1) - up_to m loads k) rise);
  }
