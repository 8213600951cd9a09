-- A number is read from the left, digit by digit.
use Rattle.std.proofs.Common.{◌≡◌, ◌≢◌, ℕ, ◌+◌, ◌-◌, ◌*◌, ◌<◌, ◌≤◌, true, false, cond, ◌&&◌, List, [], ◌∷◌, length, get_or, drop, Some, None, Option, sym, refl, ap, ◌∙◌, ⊎_elim, arith}
use Rattle.std.proofs.lemmas.Bool.{lt-leb, le-leb, cases_Bool}
use Rattle.std.proofs.lemmas.List.{drop_more}
use Rattle.text.specs.Text.{every, front, past}
use Rattle.text.specs.Numbers.{digit, read_on, digits_in, Leads}

read_on_grows : (n : ℕ) (s : List ℕ) → n ≤ read_on n s
read_on_grows n [] = omega arith
read_on_grows n (c ∷ s) = omega (arith, read_on_grows (n * 10 + (c - 48)) s)

-- so many bytes of a text are digits, and they write the value
pub record Read (s : List ℕ) (count value : ℕ) : Type 0 where
  pub digits : every digit s ≡ every digit (drop count s)
  pub written : read_on 0 s ≡ read_on value (drop count s)

-- with its next digit it is too large for any number
pub too_large : (s : List ℕ) (count value : ℕ) → Read s count value → count < length s → 9223372036854775808 < value * 10 + (get_or s count 0 - 48) → digits_in s ≡ None
too_large s count value read more large =
    let next = value * 10 + (get_or s count 0 - 48) in
    none s (omega (arith, read.written, ap (read_on value) (drop_more s count 0 more), read_on_grows next (drop (count + 1) s)))
  where
    none : (s : List ℕ) → 9223372036854775808 < read_on 0 s → digits_in s ≡ None
    none [] h = absurd (omega arith)
    none (c ∷ s) h = let out = lt-leb (read_on 0 (c ∷ s)) 9223372036854775808 h in simp out (elim (digit c && every digit s) as (λ b. cond {A = Option ℕ} b None None ≡ None) [ true ↦ refl | false ↦ refl ])

-- the digits at the front of a text
pub front_digits : (s : List ℕ) → every digit (front digit s) ≡ true
front_digits [] = refl
front_digits (c ∷ s) = ⊎_elim (λ (is : digit c ≡ true). simp is (front_digits s)) (λ (is : digit c ≡ false). simp is) (cases_Bool (digit c))

-- so far the digits write the value, and those of the rest go on
pub record ReadTo (text : List ℕ) (value : ℕ) (rest : List ℕ) : Type 0 where
  pub written : read_on value (front digit rest) ≡ read_on 0 (front digit text)
  pub follows : past digit rest ≡ past digit text
  pub small : value ≤ 999999999999999999

written : (s : List ℕ) (v : ℕ) → every digit s ≡ true → 0 < length s → read_on 0 s ≡ v → v ≤ 999999999999999999 → digits_in s ≡ Some v
written [] v all some is small = absurd (omega arith)
written (c ∷ s) v all some is small =
    let fits = le-leb v 9223372036854775808 (omega (arith, small)) in
    rw (all, is, fits) refl

stopped : (r : List ℕ) → (0 < length r → digit (get_or r 0 0) ≡ false) → (front digit r ≡ []) × (past digit r ≡ r)
stopped [] ends = (refl, refl)
stopped (c ∷ s) ends = let is = ends (omega arith) in simp is (refl, refl)

some_front : (s : List ℕ) → length (past digit s) ≢ length s → 0 < length (front digit s)
some_front [] other = absurd (other refl)
some_front (c ∷ s) other =
    ⊎_elim
    (λ (d : digit c ≡ true). simp d (omega arith))
    (λ (d : digit c ≡ false). absurd (let whole : past digit (c ∷ s) ≡ c ∷ s = simp d in other (ap length whole)))
    (cases_Bool (digit c))

-- where no digit follows, the value is that of all digits at the front
pub read_to_end : (s r : List ℕ) (v : ℕ) → ReadTo s v r → (0 < length r → digit (get_or r 0 0) ≡ false) → length r ≢ length s → Leads s v r
read_to_end s r v read ends other =
    let stop = stopped r ends in
    let follows = sym stop.1 ∙ read.follows in
    record {
      written = written (front digit s) v (front_digits s) (some_front s (λ e. other (ap length follows ∙ e))) (sym read.written ∙ ap (read_on v) stop.0) read.small;
      follows = follows;
    }
