-- A number of digits, with at most one minus before them and blanks around, that a byte ends.
use Rattle.std.proofs.Common.{◌≡◌, ℕ, ◌<◌, Bool, true, false, eqb, List, [], ◌∷◌, length, get_or, take, drop, Some, Option, sym, refl, ap, subst, ◌∙◌, ⊎_elim, arith}
use Rattle.std.specs.Cmp.Lexicographic.{pointwise}
use Rattle.std.proofs.lemmas.Bool.{eqb-true, eq-eqb, false≢true, ne_eqb, cases_Bool, and_parts, or_parts, not-true}
use Rattle.text.specs.Text.{blank, every, front, past, until, trim_end, trimmed, and_then}
use Rattle.text.specs.Numbers.{digit, digits_in, number_in, Leads, ends_number, Padded}
use Rattle.text.proofs.Digits.{front_digits}

-- a digit is no byte that is none
other : (c k : ℕ) → digit c ≡ true → digit k ≡ false → eqb c k ≡ false
other c k d none = ne_eqb c k (λ e. false≢true (sym none ∙ ap digit (sym e) ∙ d))

-- blanks alone leave nothing
trim_blanks : (s : List ℕ) → every blank s ≡ true → trim_end s ≡ []
trim_blanks [] all = refl
trim_blanks (c ∷ s) all = rw all refl

-- a digit is no blank
no_blank : (c : ℕ) → digit c ≡ true → blank c ≡ false
no_blank c d = rw (other c 32 d refl, other c 9 d refl) refl

-- where digits are left, they stand at the front
trimmed_digits : (s : List ℕ) (v : ℕ) → every digit (trim_end s) ≡ true → digits_in (trim_end s) ≡ Some v → trimmed s ≡ trim_end s
trimmed_digits [] v all is = refl
trimmed_digits (c ∷ s) v all is =
    ⊎_elim
    (λ (b : every blank (c ∷ s) ≡ true). absurd (let none = simp b at is in let z : ◌≡◌ {A = ℕ} 0 1 = cc in omega arith))
    (λ (b : every blank (c ∷ s) ≡ false).
    let kept : every digit (c ∷ trim_end s) ≡ true = simp b at all in
    let front : past blank (c ∷ s) ≡ c ∷ s = rw (no_blank c (and_parts _ _ kept).0) refl in
    ap trim_end front)
    (cases_Bool (every blank (c ∷ s)))

module _ (end : ℕ) (ends : ends_number end ≡ true) (solid : blank end ≡ false) where
  no_digit : digit end ≡ false
  no_digit = (or_parts _ _ (not-true _ ends)).0

  no_minus : eqb 45 end ≡ false
  no_minus = ne_eqb 45 end (λ e. false≢true (sym (or_parts _ _ (not-true _ ends)).1 ∙ eq-eqb end 45 (sym e)))

  -- a blank ends no number
  passed : (c : ℕ) → blank c ≡ true → eqb c end ≡ false
  passed c b = ne_eqb c end (λ e. false≢true (sym solid ∙ ap blank (sym e) ∙ b))

  -- blanks in front are passed over
  leading_blanks : (s : List ℕ) → (trimmed (front (until end) (past blank s)) ≡ trimmed (front (until end) s)) × (past (until end) (past blank s) ≡ past (until end) s)
  leading_blanks [] = (refl, refl)
  leading_blanks (c ∷ s) =
      ⊎_elim
      (λ (b : blank c ≡ true). rw (b, passed c b, b) (leading_blanks s))
      (λ (b : blank c ≡ false). rw b (refl, refl))
      (cases_Bool (blank c))

  pub behind_blanks : {A : Type 0} (kind : Bool → ℕ → Option A) (s t : List ℕ) → t ≡ past blank s → (number_in kind (trimmed (front (until end) s)) ≡ number_in kind (trimmed (front (until end) t))) × (past (until end) t ≡ past (until end) s)
  behind_blanks kind s t is =
      let same = leading_blanks s in (
        ap (number_in kind) (sym same.0 ∙ ap (λ l. trimmed (front (until end) l)) (sym is)),
        ap (past (until end)) is ∙ same.1,
      )

  -- the text up to that byte is blanks, where the byte follows them
  until_blanks : (s : List ℕ) → (0 < length (past blank s) → get_or (past blank s) 0 0 ≡ end) → (every blank (front (until end) s) ≡ true) × (past (until end) s ≡ past blank s)
  until_blanks [] behind = (refl, refl)
  until_blanks (c ∷ s) behind =
      ⊎_elim
      (λ (b : blank c ≡ true).
      let rest = until_blanks s (simp b at behind) in
      rw (b, passed c b) (rw (b, rest.0) refl, rest.1))
      (λ (b : blank c ≡ false).
      let is : c ≡ end = (simp b at behind) (omega arith) in
      rw (b, eq-eqb c end is) (refl, refl))
      (cases_Bool (blank c))

  -- it is the digits and blanks, where the byte follows these
  until_digits : (s : List ℕ) → (0 < length (past blank (past digit s)) → get_or (past blank (past digit s)) 0 0 ≡ end) → (trim_end (front (until end) s) ≡ front digit s) × (past (until end) s ≡ past blank (past digit s))
  until_digits [] behind = (refl, refl)
  until_digits (c ∷ s) behind =
      ⊎_elim
      (λ (d : digit c ≡ true).
      let rest = until_digits s (simp d at behind) in
      rw (d, other c end d no_digit) (rw (no_blank c d) (ap (λ l. c ∷ l) rest.0), rest.1))
      (λ (d : digit c ≡ false).
      let blanks = until_blanks (c ∷ s) (simp d at behind) in
      rw d (trim_blanks (front (until end) (c ∷ s)) blanks.0, blanks.1))
      (cases_Bool (digit c))

  -- so the number is padded at most
  pub padded : (s : List ℕ) (v : ℕ) (r t : List ℕ) → Leads s v r → t ≡ past blank r → (0 < length t → get_or t 0 0 ≡ end) → Padded end s v t
  padded s v r t leads is behind =
      let all : t ≡ past blank (past digit s) = is ∙ ap (past blank) leads.follows in
      let same = until_digits s (subst (λ l. 0 < length l → get_or l 0 0 ≡ end) all behind) in
      record {
        digits = ap (every digit) same.0 ∙ front_digits s;
        written = ap digits_in same.0 ∙ leads.written;
        follows = all ∙ sym same.1;
      }

module _ {A : Type 0} (kind : Bool → ℕ → Option A) (end : ℕ) (ends : ends_number end ≡ true) (solid : blank end ≡ false) where
  -- it is the number that the digits write, below zero where a minus stands before them
  pub plain_above : (s : List ℕ) (v : ℕ) (r : List ℕ) → Padded end s v r → number_in kind (trimmed (front (until end) s)) ≡ kind false v
  plain_above s v r p = ap (number_in kind) (trimmed_digits (front (until end) s) v p.digits p.written) ∙ go (trim_end (front (until end) s)) p.digits p.written
    where
      go : (t : List ℕ) → every digit t ≡ true → digits_in t ≡ Some v → number_in kind t ≡ kind false v
      go [] all is = absurd (let z : ◌≡◌ {A = ℕ} 0 1 = cc in omega arith)
      go (c ∷ t) all is = rw (other c 45 (and_parts _ _ all).0 refl, is) refl

  pub plain_below : (s : List ℕ) (v : ℕ) (r : List ℕ) → Padded end s v r → number_in kind (trimmed (front (until end) (45 ∷ s))) ≡ kind true v
  plain_below s v r p = rw (no_minus end ends solid) (ap (λ o. and_then o (kind true)) p.written)

-- behind a minus it goes on
pub past_minus : (end : ℕ) (s : List ℕ) → ends_number end ≡ true → blank end ≡ false → s ≡ 45 ∷ drop 1 s → past (until end) (drop 1 s) ≡ past (until end) s
past_minus end s ends solid is = sym (ap (past (until end)) is ∙ rw (no_minus end ends solid) refl)

-- a text that a byte leads
pub led_by : (b : ℕ) (s : List ℕ) → pointwise eqb (take 1 s) (b ∷ []) ≡ true → s ≡ b ∷ drop 1 s
led_by b [] is = absurd (false≢true is)
led_by b (c ∷ s) is = ap (λ x. x ∷ s) (eqb-true c b (and_parts _ _ is).0)
