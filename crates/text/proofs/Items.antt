-- The items of a list are read one after another, and their numbers put behind those that are there.
use Rattle.std.proofs.Common.{◌≡◌, ℕ, ◌+◌, ◌-◌, ◌<◌, ◌≤◌, Bool, true, false, List, [], ◌∷◌, ◌++◌, map, length, take, Some, None, Option, MatchOption, Bor, sym, ap, ◌∙◌, ⊎_elim, arith}
use Rattle.std.proofs.Math.Seq.{take-append_seam, take-append-add}
use Rattle.std.proofs.lemmas.Bool.{cases_Bool}
use Rattle.text.specs.Text.{front, past, trimmed, cut, and_then}
use Rattle.text.specs.Lists.{semicolon, in_item, numbers_in, leading}
use Rattle.text.proofs.Pieces.{behind, cut_front}

past_length : (s : List ℕ) → length (past in_item s) ≤ length s
past_length [] = omega arith
past_length (c ∷ s) = ⊎_elim (λ (e : in_item c ≡ true). simp e (omega (arith, past_length s))) (λ (e : in_item c ≡ false). simp e (omega arith)) (cases_Bool (in_item c))

-- the first item of a text, and those behind it
pub cut_first : (s r : List ℕ) (o : Option (Bor (List ℕ))) → r ≡ past in_item s → MatchOption o (r ≡ []) (λ others. (c : ℕ) × (r ≡ c ∷ others.now)) → MatchOption o (cut semicolon s ≡ front in_item s ∷ []) (λ others. (cut semicolon s ≡ front in_item s ∷ cut semicolon others.now) × (length others.now < length s))
cut_first s r None e none = cut_front semicolon s ∙ ap (λ l. front in_item s ∷ behind semicolon l) (sym e ∙ none)
cut_first s r (Some others) e some = (cut_front semicolon s ∙ ap (λ l. front in_item s ∷ behind semicolon l) (sym e ∙ some.1), omega (arith, past_length s, ap length e, ap length some.1))

-- what is left of a list
abbrev pub bytes_left : Option (Bor (List ℕ)) → ℕ
bytes_left None = 0
bytes_left (Some s) = 1 + length s.now

module _ {A : Type 0} (kind : Bool → ℕ → Option A) where
  -- the numbers that it writes
  abbrev pub wanted : Option (Bor (List ℕ)) → Option (List A)
  wanted None = Some []
  wanted (Some s) = numbers_in kind (map trimmed (cut semicolon s.now))

  -- those of them before the first fault
  abbrev pub ahead : Option (Bor (List ℕ)) → List A
  ahead None = []
  ahead (Some s) = leading kind (map trimmed (cut semicolon s.now))

-- numbers behind those that are there
abbrev pub onto : {A : Type 0} → List A → Option (List A) → Option (List A)
onto ys o = and_then o (λ xs. Some (ys ++ xs))

-- where reading stops, what was put behind the numbers before are the first of those that there are
pub first_of : {A : Type 0} (before numbers after rest : List A) → before ++ numbers ≡ after ++ rest → length before ≤ length after → after ≡ before ++ take (length after - length before) numbers
first_of before numbers after rest e h =
    let n : length before + (length after - length before) ≡ length after = omega arith in
    sym (take-append_seam after rest) ∙ ap (take (length after)) (sym e) ∙ ap (λ k. take k (before ++ numbers)) (sym n) ∙ take-append-add before numbers (length after - length before)
