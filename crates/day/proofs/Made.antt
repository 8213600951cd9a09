-- What an array holds that is made by calls which each give a function's value.
use Rattle.std.proofs.Common.{arith, ◌≡◌, ℕ, zero, suc, ◌+◌, List, length, drop, refl, subst}
use Rattle.std.specs.Array.{IsFromFnResultFrom, IsFromFnResult}
use Rattle.std.specs.Fn.{Called}
use Rattle.std.proofs.lemmas.List.{drop_all, drop_more}
use denote.Param.Members.{Mut}
use Rattle.day.specs.Texts.{made_by}

module _ {F B : Type 0} (g : Mut F (ℕ × Unit {0}) B) (f : F) (value : ℕ → B) (gives : (i : ℕ) (y : B) (q : F) → Called g f (i, tt) y q → (y ≡ value i) × (q ≡ f)) where
  made_on : (ys : List B) (i n : ℕ) → length ys ≡ i + n → IsFromFnResultFrom g f ys i n → drop i ys ≡ made_by value i n
  made_on ys i zero long each = drop_all i ys (omega (arith, long))
  made_on ys i (suc n) long each =
      let same = gives i each.1 each.0 each.3 in
      let others : drop (i + 1) ys ≡ made_by value (i + 1) n = made_on ys (i + 1) n (omega (arith, long)) (subst (λ p. IsFromFnResultFrom g p ys (i + 1) n) same.1 each.4) in
      rw (drop_more ys i (value i) (omega (arith, long)), each.2.1 (value i), same.0, others) refl

  pub made : (ys : List B) (n : ℕ) → IsFromFnResult g f ys n → ys ≡ made_by value 0 n
  made ys n result = made_on ys 0 n (omega (arith, result.long)) result.each
