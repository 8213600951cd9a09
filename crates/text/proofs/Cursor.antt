-- What stands behind the comma that is left of a line.
use Rattle.std.proofs.Common.{◌≡◌, ℕ, ◌+◌, ◌<◌, true, false, cond, eqb, List, [], ◌∷◌, length, get_or, drop, Some, count_by, sym, refl, ap, ◌∙◌, ⊎_elim, arith}
use Rattle.std.proofs.lemmas.Bool.{cases_Bool, false≢true, ne_eqb}
use Rattle.std.proofs.lemmas.List.Sums.{sum_by-cons}
use Rattle.text.specs.Text.{past, cut}
use Rattle.text.specs.Fields.{comma, in_field, left, next_text, Passes}
use Rattle.text.proofs.Pieces.{behind, cut_front, cut_count}

left_past : (s : List ℕ) → left (past in_field s) ≡ behind comma (past in_field s)
left_past [] = refl
left_past (c ∷ s) = ⊎_elim (λ (e : comma c ≡ true). simp e) (λ (e : comma c ≡ false). simp e (left_past s)) (cases_Bool (comma c))

-- the next field is read up to the comma behind it
pub passes_on : (s t r : List ℕ) → next_text s ≡ Some t → r ≡ past in_field (drop 1 s) → Passes true s r
passes_on [] t r e h = absurd (let z : ◌≡◌ {A = ℕ} 0 1 = cc in omega arith)
passes_on (c ∷ s) t r e h =
    ⊎_elim
    (λ (is : comma c ≡ true).
    let all : left (c ∷ s) ≡ cut comma s = simp is in
    record { rest = h; count = λ _. omega (arith, ap length all, ap length (cut_front comma s), ap length (left_past s), ap (λ l. length (left l)) h) })
    (λ (is : comma c ≡ false). absurd (let none = simp is at e in let z : ◌≡◌ {A = ℕ} 0 1 = cc in omega arith))
    (cases_Bool (comma c))

-- how many fields are left
pub left_some : (s : List ℕ) → 0 < length s → get_or s 0 0 ≡ 44 → eqb (length (left s)) 0 ≡ false
left_some [] h e = absurd (omega arith)
left_some (c ∷ s) h e = rw e (ne_eqb (length (cut comma s)) 0 (λ z. omega (arith, ap length (cut_front comma s))))

pub left_none : (s : List ℕ) → (0 < length s → eqb (get_or s 0 0) 44 ≡ false) → eqb (length (left s)) 0 ≡ true
left_none [] e = refl
left_none (c ∷ s) e = let is = e (omega arith) in simp is

pub left_count : (s : List ℕ) → eqb (length (left s)) 0 ≡ false → count_by comma s ≡ length (left s)
left_count [] e = absurd (false≢true (sym e))
left_count (c ∷ s) e =
    ⊎_elim
    (λ (is : comma c ≡ true).
    let all : left (c ∷ s) ≡ cut comma s = simp is in
    let more : count_by comma (c ∷ s) ≡ 1 + count_by comma s = sum_by-cons (λ x. cond (comma x) 1 0) c s ∙ simp is in
    omega (arith, ap length all, cut_count comma s, more))
    (λ (is : comma c ≡ false). absurd (false≢true (sym (simp is at e))))
    (cases_Bool (comma c))
