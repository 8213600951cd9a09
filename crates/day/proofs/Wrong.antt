-- Where the first wrong field stands in a list of forms that is put together from two.
use Rattle.std.proofs.Common.{rules, ◌≡◌, ℕ, Bool, true, false, cond, List, [], ◌∷◌, ◌++◌, length, Option, Some, None, Err, refl}
use Rattle.text.specs.Fields.{next_rest}
use Rattle.day.specs.declared.reading.Costing.{Costing}
use Rattle.day.specs.declared.reading.Costing.TheVariants.{Verified, Proxy, Storage}
use Rattle.day.specs.Texts.{behind}
use Rattle.day.specs.Records.{after, first_wrong, cost_forms}
use Rattle.day.specs.declared.reading.RecordReader.{RecordReader}
use Rattle.day.specs.Steps.{places, Takes}
use Rattle.text.specs.declared.fields.Fault.{Fault}
use Rattle.text.specs.declared.fields.Fault.TheVariants.{Malformed, Memory}

told_on : (right : Bool) (x y : Option ℕ) (k j : ℕ) → (x ≡ Some j → y ≡ Some j) → cond right x (Some k) ≡ Some j → cond right y (Some k) ≡ Some j
told_on true x y k j on wrong = on wrong
told_on false x y k j on wrong = wrong

told : (fs gs : List (List ℕ → Bool)) (k j : ℕ) (s : List ℕ) → first_wrong k fs s ≡ Some j → first_wrong k (fs ++ gs) s ≡ Some j
told [] gs k j s wrong = search (rules, wrong)
told (f ∷ fs) gs k j s wrong = told_on (f s) (first_wrong (after k) fs (next_rest s)) (first_wrong (after k) (fs ++ gs) (next_rest s)) (after k) j (told fs gs (after k) j (next_rest s)) wrong

passed_on : (right : Bool) (x y z : Option ℕ) (k : ℕ) → (x ≡ None → y ≡ z) → cond right x (Some k) ≡ None → cond right y (Some k) ≡ z
passed_on true x y z k on none = on none
passed_on false x y z k on none = search (rules, none)

passed : (fs gs : List (List ℕ → Bool)) (k : ℕ) (s : List ℕ) → first_wrong k fs s ≡ None → first_wrong k (fs ++ gs) s ≡ first_wrong (places (length fs) k) gs (behind (length fs) s)
passed [] gs k s none = refl
passed (f ∷ fs) gs k s none = passed_on (f s) (first_wrong (after k) fs (next_rest s)) (first_wrong (after k) (fs ++ gs) (next_rest s)) (first_wrong (places (length fs) (after k)) gs (behind (length fs) (next_rest s))) (after k) (passed fs gs (after k) (next_rest s)) none

-- what is wrong among the fields of a cost is wrong in the row
pub cost_told : (c : Costing) (gs : List (List ℕ → Bool)) (k j : ℕ) (s : List ℕ) → first_wrong k (cost_forms c) s ≡ Some j → first_wrong k (cost_forms c ++ gs) s ≡ Some j
cost_told c gs k j s wrong = told (cost_forms c) gs k j s wrong

-- where none of them is wrong, the first wrong field stands behind them
pub cost_passed : (c : Costing) (gs : List (List ℕ → Bool)) (k : ℕ) (s : List ℕ) → first_wrong k (cost_forms c) s ≡ None → first_wrong k (cost_forms c ++ gs) s ≡ first_wrong (places 6 k) gs (behind 6 s)
cost_passed Verified gs k s none = passed (cost_forms Verified) gs k s none
cost_passed Proxy gs k s none = passed (cost_forms Proxy) gs k s none
cost_passed Storage gs k s none = passed (cost_forms Storage) gs k s none

-- a cost that is told as wrong, or for want of memory, is told so in the row
pub takes_told : (A B : Type 0) (n m : ℕ) (c : Costing) (gs : List (List ℕ → Bool)) (old new other : RecordReader) (e : Fault) → Takes {A = A} n (cost_forms c) old new (Err e) → Takes {A = B} m (cost_forms c ++ gs) old other (Err e)
takes_told A B n m c gs old new other (Malformed k) wrong = cost_told c gs old.at k old.fields.rest.now wrong
takes_told A B n m c gs old new other Memory wrong = tt
