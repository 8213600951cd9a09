-- Sums of signed numbers: one element more, at either end.
use Rattle.std.proofs.Common.{◌≡◌, ℕ, ◌+◌, ◌<◌, ◌≤◌, List, [], ◌∷◌, ◌++◌, length, get_or, take, drop, ℤ, pos, ◌+ℤ◌, fold, sym, ap, ◌∙◌, arith, take-append-drop}
use lib.IntN.{+ℤ_idl, +ℤ_idr, +ℤ_assoc}
use Rattle.std.proofs.lemmas.List.{take-take, drop-take}
use Rattle.std.proofs.lemmas.List.Sums.{fold_more}
use Rattle.numbers.specs.Sums.{signed_sum}

module _ {X : Type 0} (f : X → ℤ) where
  -- what stands before the sum
  pub signed_sum_onto : (a : ℤ) (xs : List X) → fold (λ b x. b +ℤ f x) a xs ≡ a +ℤ signed_sum f xs
  signed_sum_onto a [] = sym (+ℤ_idr a)
  signed_sum_onto a (x ∷ xs) =
      signed_sum_onto (a +ℤ f x) xs
      ∙ +ℤ_assoc a (f x) (signed_sum f xs)
      ∙ ap (λ z. a +ℤ z) (sym (signed_sum_onto (pos 0 +ℤ f x) xs ∙ ap (λ z. z +ℤ signed_sum f xs) (+ℤ_idl (f x))))

  pub signed_sum_cons : (x : X) (xs : List X) → signed_sum f (x ∷ xs) ≡ f x +ℤ signed_sum f xs
  signed_sum_cons x xs = signed_sum_onto (pos 0 +ℤ f x) xs ∙ ap (λ z. z +ℤ signed_sum f xs) (+ℤ_idl (f x))

  pub signed_sum_append : (xs ys : List X) → signed_sum f (xs ++ ys) ≡ signed_sum f xs +ℤ signed_sum f ys
  signed_sum_append [] ys = sym (+ℤ_idl (signed_sum f ys))
  signed_sum_append (x ∷ xs) ys =
      signed_sum_cons x (xs ++ ys)
      ∙ ap (λ z. f x +ℤ z) (signed_sum_append xs ys)
      ∙ sym (+ℤ_assoc (f x) (signed_sum f xs) (signed_sum f ys))
      ∙ ap (λ z. z +ℤ signed_sum f ys) (sym (signed_sum_cons x xs))

  pub signed_sum_more : (xs : List X) (i : ℕ) (d : X) → i < length xs → signed_sum f (take (i + 1) xs) ≡ signed_sum f (take i xs) +ℤ f (get_or xs i d)
  signed_sum_more xs i d h = fold_more (λ a x. a +ℤ f x) (pos 0) xs i d h

-- the first i + m are the first i and a run of m
pub take_run : {X : Type 0} (xs : List X) (i m : ℕ) → take (i + m) xs ≡ take i xs ++ take m (drop i xs)
take_run xs i m =
    let h : i ≤ i + m = omega arith in
    sym (take-append-drop i (take (i + m) xs)) ∙ ap (λ l. l ++ drop i (take (i + m) xs)) (take-take i (i + m) xs h) ∙ ap (λ l. take i xs ++ l) (drop-take i m xs)
