-- What an enrolment does to the numbers of the first parties.
use Rattle.std.proofs.Common.{◌≡◌, ℕ, ◌+◌, Bool, true, false, cond, List, [], ◌∷◌, ◌++◌, length, Option, Some, None, refl, sym, ap, ◌∙◌, subst, arith, nat_eq}
use Rattle.std.specs.declared.vec.Vec.{Vec}
use Rattle.std.specs.Cmp.Lexicographic.{pointwise, bytes_decides, nat_list_eq_equiv}
use Rattle.std.specs.HashMap.{HashMap, get, Updates}
use Rattle.std.specs.List.{position_from}
use Rattle.std.specs.Map.{KeepsOthers}
use Rattle.std.specs.Option.{option_or, unwrap_or}
use Rattle.std.specs.Str.{bytes_eq}
use Rattle.day.specs.Parties.{number_of, kept_for, Agrees}

-- a first party that has the code stands before any that comes later
first_step : (b : Bool) (a : ℕ) (p q r : Option ℕ) → p ≡ option_or q r → cond b (Some a) p ≡ option_or (cond b (Some a) q) r
first_step true a p q r h = refl
first_step false a p q r h = h

-- a place is found in the list as before, or else at what is put at its end
position_from_push : {K : Type 0} (t : K → Bool) (i : ℕ) (xs : List K) (y : K) → position_from t i (xs ++ y ∷ []) ≡ option_or (position_from t i xs) (cond (t y) (Some (i + length xs)) None)
position_from_push t i [] y = ap (λ (n : ℕ). cond (t y) (Some n) None) (omega arith)
position_from_push t i (x ∷ xs) y =
    first_step (t x) i _ _ _ (position_from_push t (i + 1) xs y ∙ ap (λ (n : ℕ). option_or (position_from t (i + 1) xs) (cond (t y) (Some n) None)) (omega arith))

-- one more party is the first with its code only where no party before has that code
pub number_of-push : (other code : List ℕ) (codes : List (List ℕ)) → number_of other (codes ++ code ∷ []) ≡ option_or (number_of other codes) (cond (bytes_eq other code) (Some (length codes + 1)) None)
number_of-push other code codes =
    position_from_push (bytes_eq other) 1 codes code ∙ ap (λ (n : ℕ). option_or (number_of other codes) (cond (bytes_eq other code) (Some n) None)) (omega arith)

or_none : (p : Option ℕ) → p ≡ option_or p None
or_none None = refl
or_none (Some n) = refl

some_or : (p : Option ℕ) (n : ℕ) → Some (unwrap_or p n) ≡ option_or p (Some n)
some_or None n = refl
some_or (Some m) n = refl

-- two keys of the map are the same code
abbrev pub same_code : {Z : Type 0} → Vec ℕ Z → Vec ℕ Z → Bool
same_code x y = pointwise nat_eq x.items y.items

module _ {Z S : Type 0} where
  -- another code keeps its number
  others_kept : (old new : HashMap (Vec ℕ Z) ℕ S) (code : Vec ℕ Z) (other : List ℕ) → KeepsOthers same_code (same_code code) old.entries new.entries → bytes_eq other code.items ≡ false → kept_for other new ≡ kept_for other old
  unfolding KeepsOthers
  others_kept old new code other h apart =
      h (λ k. bytes_eq other k.items) (λ x y p. nat_list_eq_equiv.congr other x.items y.items p) (λ k p. subst (λ (s : List ℕ). bytes_eq other s ≡ false) ((bytes_decides code.items k.items).0 p) apart)

  entered_by : (old new : HashMap (Vec ℕ Z) ℕ S) (code : Vec ℕ Z) (n v : ℕ) (other : List ℕ) (b : Bool) → b ≡ bytes_eq other code.items → Updates same_code old new code (Some v) → v ≡ unwrap_or (get same_code old code) n → kept_for other new ≡ option_or (kept_for other old) (cond b (Some n) None)
  entered_by old new code n v other true e u is =
      let itself : code.items ≡ other = sym ((bytes_decides other code.items).0 (sym e)) in
      subst (λ (s : List ℕ). kept_for s new ≡ option_or (kept_for s old) (Some n)) itself (u.1 ∙ ap Some is ∙ some_or (get same_code old code) n)
  entered_by old new code n v other false e u is = others_kept old new code other u.3 (sym e) ∙ or_none (kept_for other old)

  -- the code keeps the number that it has, or else takes n
  entered : (old new : HashMap (Vec ℕ Z) ℕ S) (code : Vec ℕ Z) (n v : ℕ) (other : List ℕ) → Updates same_code old new code (Some v) → v ≡ unwrap_or (get same_code old code) n → kept_for other new ≡ option_or (kept_for other old) (cond (bytes_eq other code.items) (Some n) None)
  entered old new code n v other u is = entered_by old new code n v other (bytes_eq other code.items) refl u is

  -- a map that agrees with the codes does so after the next number is entered for a code, unless it has one already, and that code follows the others
  pub agrees-push : (old new : HashMap (Vec ℕ Z) ℕ S) (codes : List (List ℕ)) (code : Vec ℕ Z) (n v : ℕ) → Agrees old codes → Updates same_code old new code (Some v) → v ≡ unwrap_or (get same_code old code) n → n ≡ length codes + 1 → Agrees new (codes ++ code.items ∷ [])
  agrees-push old new codes code n v a u is next = λ other.
      entered old new code n v other u is ∙ ap (λ (o : Option ℕ). option_or o (cond (bytes_eq other code.items) (Some n) None)) (a other)
      ∙ ap (λ (m : ℕ). option_or (number_of other codes) (cond (bytes_eq other code.items) (Some m) None)) next ∙ sym (number_of-push other code.items codes)
