-- Why the leftover rule keeps the laws: the missing cents are no more than the shares that were not whole.
use Rattle.std.specs.Prelude.{◌≡◌, ℕ, zero, suc, ◌+◌, ◌-◌, ◌*◌, ◌/◌, ◌%◌, ◌<◌, ◌≤◌, min, Bool, true, false, cond, ◌&&◌, List, [], ◌∷◌, length, get_or, take, ℤ, pos, ◌+ℤ◌, sum_by, sum, count_by, nat_lt, slice_index, slice_index_or, unsigned_abs, refl}
use Rattle.std.proofs.Common.{sym, ap, ◌∙◌, subst, ⊎_elim, arith, add-one, mul-le-mul_left, mul-add, add-mul, mul-zero, zero-mul, add-zero, div-add-mod', mod-lt, le_of_mul-le-mul_right, lt_of_mul-lt-mul_right}
use Rattle.std.proofs.lemmas.List.{take_all}
use Rattle.std.proofs.lemmas.List.FromFn.{length-map-range_with_len, get_or-map-range_with_len}
use Rattle.std.proofs.lemmas.List.Sums.{sum_by-cons, sum_by_more, get_or-le-sum_by}
use Rattle.std.proofs.lemmas.Bool.{cases_lt, ltb-true, ltb-false, lt-ltb, le-ltb}
use Rattle.numbers.specs.Signs.{signed_by}
use Rattle.numbers.proofs.Integers.{signed_add, signed_zero, signed_self, signed_gap}
use Rattle.numbers.specs.Sums.{signed_total}
use Rattle.numbers.proofs.Sums.{signed_sum_more}
use Rattle.sharing.specs.Rules.{Asked, Fair}
use Rattle.sharing.specs.Leftover.{down, broken, missing, part, leftover}

module _ (m all : ℕ) (above : 0 < all) where
  -- the parts that are taken down, and the rests
  split : (xs : List ℕ) → m * sum xs ≡ sum_by (down m all) xs * all + sum_by (λ x. m * x % all) xs
  split [] = omega (arith, mul-zero m, zero-mul all)
  split (x ∷ xs) =
      rw (sum_by-cons (λ y. y) x xs, sum_by-cons (down m all) x xs, sum_by-cons (λ y. m * y % all) x xs)
      (omega (arith, mul-add m x (sum xs), add-mul (down m all x) (sum_by (down m all) xs) all, split xs, div-add-mod' (m * x) all))

  -- a rest is below a cent, and none where the share was whole
  rests : (xs : List ℕ) → sum_by (λ x. m * x % all) xs ≤ count_by (broken m all) xs * all
  rests [] = omega arith
  rests (x ∷ xs) =
      rw (sum_by-cons (λ y. m * y % all) x xs, sum_by-cons (λ y. cond (broken m all y) 1 0) x xs)
      (one (broken m all x) (m * x % all) (count_by (broken m all) xs) (whole_rest (m * x % all)) (mod-lt (m * x) above) (rests xs))
    where
      one : {s : ℕ} (b : Bool) (r n : ℕ) → (b ≡ false → r ≡ 0) → r < all → s ≤ n * all → r + s ≤ (cond b 1 0 + n) * all
      one true r n z h k = omega (arith, k, add-mul 1 n all)
      one false r n z h k = omega (arith, k, z refl)

      whole_rest : (r : ℕ) → nat_lt 0 r ≡ false → r ≡ 0
      whole_rest r e = omega (arith, ltb-false 0 r e)

-- one more party takes a cent or not
step : (d e c w : ℕ) (b : Bool) → d + min c w + (e + cond (b && nat_lt c w) 1 0) ≡ d + e + min (c + cond b 1 0) w
step d e c w true = ⊎_elim
    (λ lt. rw (lt-ltb c w lt) (omega arith))
    (λ le. rw (le-ltb c w le) (omega arith))
    (cases_lt c w)
step d e c w false = omega arith

near_one : (q r l e : ℕ) (b t : Bool) → q * l + r ≡ e → r < l → (b ≡ true → 0 < r) → ((q + cond (b && t) 1 0) * l - e) + (e - (q + cond (b && t) 1 0) * l) < l
near_one q r l e true true h k z = omega (arith, z refl, add-mul q 1 l)
near_one q r l e true false h k z = omega (arith, add-zero q)
near_one q r l e false t h k z = omega (arith, add-zero q)

some_rest : (r : ℕ) → nat_lt 0 r ≡ true → 0 < r
some_rest r e = ltb-true 0 r e

module _ (m : ℕ) (loads : List ℕ) (loaded : 0 < sum loads) where
  -- no more is given than there is
  pub down_le : sum_by (down m (sum loads)) loads ≤ m
  down_le = le_of_mul-le-mul_right {k = sum loads} (omega (arith, split m (sum loads) loaded loads)) loaded

  -- there are enough that can take a missing cent
  pub enough : missing m loads ≤ count_by (broken m (sum loads)) loads
  enough =
      let d : ℕ = sum_by (down m (sum loads)) loads in
      let e : d + (m - d) ≡ m = omega (arith, down_le) in
      let f : m * sum loads ≡ d * sum loads + (m - d) * sum loads = ap (λ n. n * sum loads) (sym e) ∙ add-mul d (m - d) (sum loads) in
      le_of_mul-le-mul_right {k = sum loads} (omega (arith, split m (sum loads) loaded loads, rests m (sum loads) loaded loads)) loaded

  -- what the first k get
  abbrev first : ℕ → ℕ
  first k = sum_by (down m (sum loads)) (take k loads) + min (count_by (broken m (sum loads)) (take k loads)) (missing m loads)

  pub first_zero : first 0 ≡ 0
  first_zero = omega arith

  pub first_all : first (length loads) ≡ m
  first_all = rw (take_all (length loads) loads (omega arith)) (omega (arith, down_le, enough))

  pub first_more : (k : ℕ) → k < length loads → first k + part m loads k ≡ first (k + 1)
  unfolding part
  first_more k h =
      let x : ℕ = get_or loads k 0 in
      rw (sum_by_more (down m (sum loads)) loads k 0 h, sum_by_more (λ y. cond (broken m (sum loads) y) 1 0) loads k 0 h)
      (step (sum_by (down m (sum loads)) (take k loads)) (down m (sum loads) x) (count_by (broken m (sum loads)) (take k loads)) (missing m loads) (broken m (sum loads) x))

  -- one is less than a cent from its exact share
  pub part_near : (k : ℕ) → (part m loads k * sum loads - m * slice_index loads k) + (m * slice_index loads k - part m loads k * sum loads) < sum loads
  unfolding part
  part_near k =
      let x : ℕ = get_or loads k 0 in
      near_one (m * x / sum loads) (m * x % sum loads) (sum loads) (m * x) (broken m (sum loads) x) (nat_lt (count_by (broken m (sum loads)) (take k loads)) (missing m loads))
      (div-add-mod' (m * x) (sum loads)) (mod-lt (m * x) loaded) (some_rest (m * x % sum loads))

  -- and no more than the total
  pub part_le : (k : ℕ) → k < length loads → part m loads k ≤ m
  part_le k h =
      let lt : part m loads k < m + 1 = lt_of_mul-lt-mul_right (sum loads) (omega (arith, part_near k, add-mul m 1 (sum loads), mul-le-mul_left m (get_or-le-sum_by (λ x. x) loads k 0 h))) in
      omega arith

module _ (total : ℤ) (loads : List ℕ) (asked : Asked total loads) where
  loaded : 0 < sum loads
  loaded = asked.loaded

  pub leftover_length : length (leftover total loads) ≡ length loads
  unfolding leftover
  leftover_length = length-map-range_with_len _ 0 (length loads)

  pub leftover_at : (k : ℕ) → k < length loads → slice_index_or (leftover total loads) k (pos 0) ≡ signed_by total (part (unsigned_abs total) loads k)
  unfolding leftover
  leftover_at k h = get_or-map-range_with_len _ 0 (length loads) k k (pos 0) h (omega arith)

  leftover_first : (k : ℕ) → k ≤ length loads → signed_total (take k (leftover total loads)) ≡ signed_by total (first (unsigned_abs total) loads loaded k)
  leftover_first zero h = sym (ap (signed_by total) (first_zero (unsigned_abs total) loads loaded) ∙ signed_zero total)
  leftover_first (suc k) h =
      let m : ℕ = unsigned_abs total in
      let lt : k < length loads = omega arith in
      let lt2 : k < length (leftover total loads) = omega (arith, leftover_length) in
      subst (λ n. signed_total (take n (leftover total loads)) ≡ signed_by total (first m loads loaded n)) (add-one k)
      (signed_sum_more (λ x. x) (leftover total loads) k (pos 0) lt2
      ∙ ap (λ z. z +ℤ slice_index_or (leftover total loads) k (pos 0)) (leftover_first k (omega arith))
      ∙ ap (λ z. signed_by total (first m loads loaded k) +ℤ z) (leftover_at k lt)
      ∙ signed_add total (first m loads loaded k) (part m loads k)
      ∙ ap (signed_by total) (first_more m loads loaded k lt))

  pub leftover_fair : Fair total loads (leftover total loads)
  leftover_fair = record {
    count = leftover_length;
    whole = ap signed_total (sym (take_all (length loads) (leftover total loads) (omega (arith, leftover_length))))
        ∙ leftover_first (length loads) (omega arith)
        ∙ ap (signed_by total) (first_all (unsigned_abs total) loads loaded)
        ∙ signed_self total;
    near = λ k h. rw (leftover_at k h, signed_gap) (part_near (unsigned_abs total) loads loaded k);
  }
