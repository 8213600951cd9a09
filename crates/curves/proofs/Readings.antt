-- What a curve reads, by places.
use Rattle.std.proofs.Common.{◌≡◌, ℕ, zero, suc, ◌+◌, ◌-◌, ◌<◌, ◌≤◌, true, false, cond, ◌⊎◌, List, [], ◌∷◌, length, drop, ℤ, pos, ◌≤ℤ◌, ◌<ℤ◌, sym, refl, ap, ◌∙◌, inl, inr, ⊎_elim, add-one, arith}
use borrow.Author.Differences.{ints}
use lib.Signed.{lt_z, le_z}
use Rattle.std.proofs.lemmas.Int.{by_lt_z}
use Rattle.std.proofs.lemmas.List.{drop_more, drop_all}
use Rattle.numbers.specs.Checks.{Each, First}
use Rattle.curves.specs.declared.points.Point.{Point}
use Rattle.curves.specs.Shape.{at, point, Rising, Shaped}
use Rattle.curves.specs.Reading.{line, beyond, reads, Reads, Pinned, NotAbove}
use Rattle.curves.proofs.Lines.{line_start, line_nearest, line_only}

-- a test and what it picks
pub when_le : (x y : ℤ) (p q : ℤ) → x ≤ℤ y → cond (le_z x y) p q ≡ p
when_le x y p q h = let e : le_z x y ≡ true = grind (arith, ints) in rw e

pub when_above : (x y : ℤ) (p q : ℤ) → y <ℤ x → cond (le_z x y) p q ≡ q
when_above x y p q h = let e : le_z x y ≡ false = grind (arith, ints) in rw e

pub when_lt : (x y : ℤ) (p q : ℤ) → x <ℤ y → cond (lt_z x y) p q ≡ p
when_lt x y p q h = let e : lt_z x y ≡ true = grind (arith, ints) in rw e

pub when_not : (x y : ℤ) (p q : ℤ) → y ≤ℤ x → cond (lt_z x y) p q ≡ q
when_not x y p q h = let e : lt_z x y ≡ false = grind (arith, ints) in rw e

first : (ps : List Point) (x : ℤ) → 0 < length ps → reads ps x ≡ cond (le_z x (at ps 0).power) (at ps 0).price (beyond (at ps 0) (drop 1 ps) x)
first [] x h = absurd (omega arith)
first (a ∷ ps) x h = refl

module _ (ps : List Point) (x : ℤ) (some : 0 < length ps) (rising : Rising ps) where
  -- at or below the first
  pub reads_low : x ≤ℤ (at ps 0).power → reads ps x ≡ (at ps 0).price
  reads_low h = first ps x some ∙ when_le x (at ps 0).power _ _ h

  -- every point that x is not below is passed
  pub passed : (k : ℕ) → k < length ps → (at ps 0).power <ℤ x → (at ps k).power ≤ℤ x → reads ps x ≡ beyond (at ps k) (drop (k + 1) ps) x
  passed zero h a b = first ps x some ∙ when_above x (at ps 0).power _ _ a
  passed (suc k) h a b =
      let up = (rising k (omega arith)).0 in
      let e : k + 1 ≡ suc k = add-one k in
      let lt : suc k < length ps = h in
      let here : (at ps k).power ≤ℤ x = omega (arith, ints, rw e at up) in
      passed k (omega arith) a here
      ∙ ap (λ n. beyond (at ps k) (drop n ps) x) e
      ∙ ap (λ l. beyond (at ps k) l x) (drop_more ps (suc k) (point (pos 0) (pos 0)) lt)
      ∙ when_not x (at ps (suc k)).power _ _ b

  pub reads_between : (k : ℕ) → k + 1 < length ps → (at ps 0).power <ℤ x → (at ps k).power ≤ℤ x → x <ℤ (at ps (k + 1)).power → reads ps x ≡ line (at ps k) (at ps (k + 1)) x
  reads_between k h a b c =
      passed k (omega arith) a b
      ∙ ap (λ l. beyond (at ps k) l x) (drop_more ps (k + 1) (point (pos 0) (pos 0)) h)
      ∙ when_lt x (at ps (k + 1)).power _ _ c

  pub reads_high : (at ps 0).power <ℤ x → (at ps (length ps - 1)).power ≤ℤ x → reads ps x ≡ (at ps (length ps - 1)).price
  reads_high a b =
      passed (length ps - 1) (omega arith) a b
      ∙ ap (λ l. beyond (at ps (length ps - 1)) l x) (drop_all (length ps - 1 + 1) ps (omega arith))

  -- powers rise over any distance
  pub rises : (k : ℕ) → k < length ps → (at ps 0).power ≤ℤ (at ps k).power
  rises zero h = omega (arith, ints)
  rises (suc k) h = omega (arith, ints, rises k (omega arith), rw (add-one k) at (rising k (omega arith)).0)

  only_first : (k : ℕ) → k < length ps → (at ps k).power ≤ℤ (at ps 0).power → k ≡ 0
  only_first zero h b = refl
  only_first (suc k) h b = absurd (omega (arith, ints, rises k (omega arith), rw (add-one k) at (rising k (omega arith)).0))

  at_first : (k : ℕ) → k + 1 < length ps → x ≤ℤ (at ps 0).power → (at ps k).power ≤ℤ x → reads ps x ≡ line (at ps k) (at ps (k + 1)) x
  at_first zero h a b =
      let e : x ≡ (at ps 0).power = omega (arith, ints) in
      reads_low a ∙ rw e (sym (line_start (at ps 0) (at ps 1) (rising 0 h).0))
  at_first (suc k) h a b = absurd (omega (arith, only_first (suc k) (omega arith) (omega (arith, ints))))

  pub reads_line : (k : ℕ) → k + 1 < length ps → (at ps k).power ≤ℤ x → x <ℤ (at ps (k + 1)).power → reads ps x ≡ line (at ps k) (at ps (k + 1)) x
  reads_line k h b c = by_lt_z (at ps 0).power x (λ a. reads_between k h a b c) (λ a. at_first k h a b)

  pub reads_last : (at ps (length ps - 1)).power ≤ℤ x → reads ps x ≡ (at ps (length ps - 1)).price
  reads_last h = by_lt_z (at ps 0).power x (λ a. reads_high a h)
      (λ a. let e : length ps - 1 ≡ 0 = only_first (length ps - 1) (omega arith) (omega (arith, ints)) in rw e (reads_low a))

  pub reads_is : Reads ps x (reads ps x)
  reads_is = record {
    low = reads_low;
    high = reads_last;
    between = λ k h b c. rw (reads_line k h b c) (line_nearest (at ps k) (at ps (k + 1)) x (rising k h).0);
  }

  -- where a power above the first point lies: at or past the n-th point, or between two neighbours before it
  Between : ℕ → Type 0
  Between n = (k : ℕ) × (k + 1 ≤ n) × ((at ps k).power ≤ℤ x) × (x <ℤ (at ps (k + 1)).power)

  lies : (n : ℕ) → (at ps 0).power <ℤ x → ((at ps n).power ≤ℤ x) ⊎ Between n
  unfolding Between
  lies zero a = inl (omega (arith, ints))
  lies (suc n) a = by_lt_z x (at ps (suc n)).power
      (λ below. ⊎_elim
      (λ here. inr (n, omega arith, here, rw (add-one n) below))
      (λ b. inr (b.0, omega (arith, b.1), b.2, b.3))
      (lies n a))
      (λ past. inl past)

  pub reads_only : (s : ℤ) → Reads ps x s → s ≡ reads ps x
  unfolding Between
  reads_only s r = by_lt_z (at ps 0).power x
      (λ a. ⊎_elim
      (λ past. r.high past ∙ sym (reads_is.high past))
      (λ b. let k : ℕ = b.0 in
      let h : k + 1 < length ps = omega (arith, b.1) in
      line_only (at ps k) (at ps (k + 1)) x s (reads ps x) (rising k h).0 (r.between k h b.2 b.3) (reads_is.between k h b.2 b.3))
      (lies (length ps - 1) a))
      (λ a. r.low a ∙ sym (reads_low a))

-- the three places that the first point above x can have
module _ (ps : List Point) (x : ℤ) (s : Shaped ps) where
  pub reads_above : (k : ℕ) → First (NotAbove ps x) (length ps) k → (k ≡ 0 → ⊥) → reads ps x ≡ line (at ps (k - 1)) (at ps k) x
  reads_above k f some =
      let e : k - 1 + 1 ≡ k = omega arith in
      let above : x <ℤ (at ps k).power = above_x f.1 in
      rw e at (reads_line ps x s.some s.rising (k - 1) (omega (arith, f.0)) (f.2 (k - 1) (omega arith)) (rw e above))
    where
      above_x : {y : ℤ} → (y ≤ℤ x → ⊥) → x <ℤ y
      above_x {y} h = by_lt_z x y (λ lt. lt) (λ le. absurd (h le))

  pub reads_past : Each (NotAbove ps x) (length ps) → reads ps x ≡ (at ps (length ps - 1)).price
  reads_past h = reads_last ps x s.some s.rising (h (length ps - 1) (omega (arith, s.some)))

  -- a reading by definition is one in words, and the only one
  pub in_words : (r : ℤ) → r ≡ reads ps x → Reads ps x r × Pinned ps x r
  in_words r e = (rw e (reads_is ps x s.some s.rising), λ t w. reads_only ps x s.some s.rising t w ∙ sym e)
