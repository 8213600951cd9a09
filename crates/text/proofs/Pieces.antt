-- The pieces of a text between separators.
use Rattle.std.proofs.Common.{◌≡◌, ℕ, suc, ◌+◌, Bool, true, false, cond, not, List, [], ◌∷◌, length, count_by, refl, ap, ◌∙◌, ⊎_elim, arith}
use Rattle.std.proofs.lemmas.Bool.{cases_Bool}
use Rattle.std.proofs.lemmas.List.Sums.{sum_by-cons}
use Rattle.text.specs.Text.{front, past, grow, cut}

module _ (sep : ℕ → Bool) where
  -- the pieces behind the first, from the separator on
  abbrev pub behind : List ℕ → List (List ℕ)
  behind [] = []
  behind (c ∷ s) = cut sep s

  -- the first piece, and then those behind it
  pub cut_front : (s : List ℕ) → cut sep s ≡ front (λ c. not (sep c)) s ∷ behind (past (λ c. not (sep c)) s)
  cut_front [] = refl
  cut_front (c ∷ s) =
      ⊎_elim
      (λ (e : sep c ≡ true). simp e)
      (λ (e : sep c ≡ false). simp e (ap (grow c) (cut_front s)))
      (cases_Bool (sep c))

  -- one piece more than there are separators
  pub cut_count : (s : List ℕ) → length (cut sep s) ≡ 1 + count_by sep s
  cut_count [] = refl
  cut_count (c ∷ s) =
      let more = sum_by-cons (λ x. cond (sep x) 1 0) c s in
      ⊎_elim
      (λ (e : sep c ≡ true). let more' : count_by sep (c ∷ s) ≡ 1 + count_by sep s = more ∙ simp e in let cuts : length (cut sep (c ∷ s)) ≡ suc (length (cut sep s)) = simp e in omega (arith, cuts, more', cut_count s))
      (λ (e : sep c ≡ false). let more' : count_by sep (c ∷ s) ≡ 0 + count_by sep s = more ∙ simp e in let cuts : length (cut sep (c ∷ s)) ≡ length (grow c (cut sep s)) = simp e in omega (arith, cuts, more', grown c (cut sep s) (count_by sep s) (cut_count s), cut_count s))
      (cases_Bool (sep c))
    where
      grown : (c : ℕ) (fs : List (List ℕ)) (n : ℕ) → length fs ≡ 1 + n → length (grow c fs) ≡ length fs
      grown c [] n e = absurd (omega arith)
      grown c (f ∷ fs) n e = refl
