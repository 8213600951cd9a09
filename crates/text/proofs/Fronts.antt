-- The front of a text whose bytes pass a test, cut off at the first byte that doesn't, and the blanks at its end.
use Rattle.std.proofs.Common.{◌≡◌, ℕ, ◌+◌, ◌-◌, ◌<◌, ◌≤◌, Bool, true, false, cond, not, ◌&&◌, List, [], ◌∷◌, ◌++◌, length, get_or, take, drop, min, position, Some, None, Option, unwrap_or, sym, refl, ap, ◌∙◌, subst, one-add, arith}
use Rattle.std.specs.List.{position_or_len}
use Rattle.std.proofs.lemmas.Bool.{false_from_ne_true}
use Rattle.std.proofs.lemmas.List.{take_more, take_all, get_or-take, length-take}
use Rattle.std.proofs.lemmas.List.Quantifiers.{position-Some}
use Rattle.std.proofs.lemmas.List.Sums.{position_or_len_is}
use Rattle.memchr.specs.Find.{IsFirstByte, is_byte}
use Rattle.text.specs.Text.{blank, front, past, every, trim_end}

module _ (inside ends : ℕ → Bool) (opposite : (c : ℕ) → not (ends c) ≡ inside c) where
  -- the text is cut at the first byte that ends its front
  pub past_first : (s : List ℕ) → drop (position_or_len ends s) s ≡ past inside s
  past_first [] = refl
  past_first (c ∷ s) =
      rw (opposite c)
      (elim (inside c) as (λ b. drop (cond b (1 + position_or_len ends s) 0) (c ∷ s) ≡ cond b (past inside s) (c ∷ s)) [ true ↦ rw one-add (past_first s) | false ↦ refl ])

  pub front_first : (s : List ℕ) → take (position_or_len ends s) s ≡ front inside s
  front_first [] = refl
  front_first (c ∷ s) =
      rw (opposite c)
      (elim (inside c) as (λ b. take (cond b (1 + position_or_len ends s) 0) (c ∷ s) ≡ cond b (c ∷ front inside s) []) [ true ↦ rw one-add (ap (λ l. c ∷ l) (front_first s)) | false ↦ refl ])

-- where that byte is, or the text's end
pub first_byte : (b : ℕ) (s : List ℕ) (r : Option ℕ) → IsFirstByte (is_byte b) s r → position_or_len (is_byte b) s ≡ unwrap_or r (length s)
first_byte b s None none = position_or_len_is (is_byte b) s (length s) 0 (omega arith) (λ k lt. false_from_ne_true _ (none k (omega arith) lt)) (λ lt. absurd (omega arith))
first_byte b s (Some k) at = position_or_len_is (is_byte b) s k 0 (omega (arith, at.0.high)) (λ j lt. false_from_ne_true _ (at.0.before j (omega arith) lt)) (λ _. at.1)

-- it is the same byte where it is found in a front of the text
pub near_byte : (b : ℕ) (s : List ℕ) (n k : ℕ) → position (is_byte b) (take n s) ≡ Some k → k ≡ position_or_len (is_byte b) s
near_byte b s n k e =
    let h = position-Some (is_byte b) (take n s) k 0 e in
    let near : k < min n (length s) = subst (λ m. k < m) (length-take n s) h.0 in
    let same : (j : ℕ) → j ≤ k → get_or (take n s) j 0 ≡ get_or s j 0 = λ j le. get_or-take n s j 0 (omega (arith, near)) in
    sym (position_or_len_is (is_byte b) s k 0 (omega (arith, near)) (λ j lt. subst (λ c. is_byte b c ≡ false) (same j (omega arith)) (h.2 j lt)) (λ _. subst (λ c. is_byte b c ≡ true) (same k (omega arith)) h.1))

-- the last byte of a text
pub last_byte : (s : List ℕ) → 0 < length s → s ≡ take (length s - 1) s ++ get_or s (length s - 1) 0 ∷ []
last_byte s h =
    let e : length s - 1 + 1 ≡ length s = omega arith in
    sym (take_all (length s) s (omega arith)) ∙ subst (λ k. take k s ≡ take (length s - 1) s ++ get_or s (length s - 1) 0 ∷ []) e (take_more s (length s - 1) 0 (omega arith))

-- blanks at the end
trim_end_blank : (s : List ℕ) (c : ℕ) → blank c ≡ true → trim_end (s ++ c ∷ []) ≡ trim_end s
trim_end_blank [] c h = rw h refl
trim_end_blank (x ∷ s) c h = rw (every_blank s c h, trim_end_blank s c h) refl
  where
    every_blank : (s : List ℕ) (c : ℕ) → blank c ≡ true → every blank (s ++ c ∷ []) ≡ every blank s
    every_blank [] c h = rw h refl
    every_blank (x ∷ s) c h = ap (λ b. blank x && b) (every_blank s c h)

trim_end_kept : (s : List ℕ) (c : ℕ) → blank c ≡ false → trim_end (s ++ c ∷ []) ≡ s ++ c ∷ []
trim_end_kept [] c h = rw h refl
trim_end_kept (x ∷ s) c h = rw (every_kept (x ∷ s) c h) (ap (λ l. x ∷ l) (trim_end_kept s c h))
  where
    every_kept : (s : List ℕ) (c : ℕ) → blank c ≡ false → every blank (s ++ c ∷ []) ≡ false
    every_kept [] c h = rw h refl
    every_kept (x ∷ s) c h = elim (blank x) as (λ b. (b && every blank (s ++ c ∷ [])) ≡ false) [ true ↦ every_kept s c h | false ↦ refl ]

-- one of them is cut off, or there is none
pub trim_end_less : (s : List ℕ) → 0 < length s → blank (get_or s (length s - 1) 0) ≡ true → trim_end (take (length s - 1) s) ≡ trim_end s
trim_end_less s h b = sym (ap trim_end (last_byte s h) ∙ trim_end_blank (take (length s - 1) s) _ b)

pub trim_end_same : (s : List ℕ) → (0 < length s → blank (get_or s (length s - 1) 0) ≡ false) → s ≡ trim_end s
trim_end_same [] b = refl
trim_end_same (c ∷ s) b =
    let h : 0 < length (c ∷ s) = omega arith in
    let last = last_byte (c ∷ s) h in
    last ∙ sym (ap trim_end last ∙ trim_end_kept (take (length (c ∷ s) - 1) (c ∷ s)) _ (b h))
