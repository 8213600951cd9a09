-- The ends of lines.
use Rattle.std.proofs.Common.{◌≡◌, ℕ, ◌+◌, ◌-◌, ◌<◌, true, false, cond, ◌&&◌, eqb, List, [], ◌∷◌, ◌++◌, Some, None, map, length, get_or, take, drop, sym, refl, ap, ◌∙◌, ⊎_elim, append_assoc, arith}
use Rattle.std.proofs.lemmas.List.{map-append, take_all, take_more, take-append-drop, drop_all, drop-drop}
use Rattle.std.proofs.lemmas.Bool.{cases_Bool, and_right}
use Rattle.memchr.specs.Find.{IsFirstByte, is_byte}
use Rattle.text.specs.Text.{is_empty, front, grow}
use Rattle.text.specs.Lines.{in_line, without_cr, first_line, after_line, ended, lines_of}
use Rattle.text.proofs.Fronts.{front_first, past_first, first_byte, last_byte}

-- the last byte of a line decides
is_empty_push : (s : List ℕ) (c : ℕ) → is_empty (s ++ c ∷ []) ≡ false
is_empty_push [] c = refl
is_empty_push (x ∷ s) c = refl

without_push : (s : List ℕ) (c : ℕ) → without_cr (s ++ c ∷ []) ≡ cond (eqb c 13) s (s ++ c ∷ [])
without_push [] c = elim (eqb c 13) as (λ b. cond (b && true) [] (c ∷ []) ≡ cond b [] (c ∷ [])) [ true ↦ refl | false ↦ refl ]
without_push (x ∷ s) c =
    let on = and_right (eqb x 13) (is_empty (s ++ c ∷ [])) (is_empty_push s c) in
    simp on (ap (λ l. x ∷ l) (without_push s c) ∙ elim (eqb c 13) as (λ b. x ∷ cond b s (s ++ c ∷ []) ≡ cond b (x ∷ s) (x ∷ (s ++ c ∷ []))) [ true ↦ refl | false ↦ refl ])

-- it is cut off where it is a CR, and else it stays
pub without_less : (s : List ℕ) → 0 < length s → get_or s (length s - 1) 0 ≡ 13 → take (length s - 1) s ≡ without_cr s
without_less s h e = sym (ap without_cr (last_byte s h) ∙ without_push (take (length s - 1) s) _ ∙ rw e refl)

pub without_same : (s : List ℕ) → (0 < length s → eqb (get_or s (length s - 1) 0) 13 ≡ false) → s ≡ without_cr s
without_same [] e = refl
without_same (c ∷ s) e =
    let h : 0 < length (c ∷ s) = omega arith in
    let none = e h in
    let last = last_byte (c ∷ s) h in
    last ∙ sym (ap without_cr last ∙ without_push (take (length (c ∷ s) - 1) (c ∷ s)) _ ∙ simp none)

-- the first line and the others
ended_first : (c : ℕ) (s : List ℕ) → ended (c ∷ s) ≡ front in_line (c ∷ s) ∷ ended (after_line (c ∷ s))
ended_first c [] = ⊎_elim (λ (e : eqb c 10 ≡ true). simp e) (λ (e : eqb c 10 ≡ false). simp e) (cases_Bool (eqb c 10))
ended_first c (d ∷ s) =
    ⊎_elim
    (λ (e : eqb c 10 ≡ true). simp e)
    (λ (e : eqb c 10 ≡ false). simp e (ap (grow c) (ended_first d s)))
    (cases_Bool (eqb c 10))

pub lines_next : (s l r : List ℕ) → l ≡ first_line s → r ≡ after_line s → 0 < length s → lines_of s ≡ l ∷ lines_of r
lines_next [] l r f a h = absurd (omega arith)
lines_next (c ∷ s) l r f a h = ap (map without_cr) (ended_first c s) ∙ ap (λ x. x ∷ lines_of (after_line (c ∷ s))) (sym f) ∙ ap (λ x. l ∷ lines_of x) (sym a)

-- the first line ends at the first LF, or with the text
pub line_at : (s : List ℕ) (n : ℕ) → IsFirstByte (is_byte 10) s (Some n) → (take n s ≡ front in_line s) × (drop (n + 1) s ≡ after_line s)
line_at s n at =
    let e = sym (first_byte 10 s (Some n) at) in (
      ap (λ k. take k s) e ∙ front_first in_line (is_byte 10) (λ _. refl) s,
      sym (drop-drop 1 n s) ∙ ap (drop 1) (ap (λ k. drop k s) e ∙ past_first in_line (is_byte 10) (λ _. refl) s),
    )

pub line_whole : (s : List ℕ) → IsFirstByte (is_byte 10) s None → (s ≡ front in_line s) × ([] ≡ after_line s)
line_whole s none =
    let e = sym (first_byte 10 s None none) in (
      sym (take_all (length s) s (omega arith)) ∙ ap (λ k. take k s) e ∙ front_first in_line (is_byte 10) (λ _. refl) s,
      sym (ap (drop 1) (drop_all (length s) s (omega arith))) ∙ ap (drop 1) (ap (λ k. drop k s) e ∙ past_first in_line (is_byte 10) (λ _. refl) s),
    )

-- a text that is cut behind an LF has the lines of both parts
ended_append : (s t : List ℕ) → ended (s ++ 10 ∷ t) ≡ ended (s ++ 10 ∷ []) ++ ended t
ended_append [] t = refl
ended_append (c ∷ s) t =
    ⊎_elim
    (λ (e : eqb c 10 ≡ true). simp e (ap (λ l. [] ∷ l) (ended_append s t)))
    (λ (e : eqb c 10 ≡ false). simp e (ap (grow c) (ended_append s t) ∙ grow_append c s (ended t)))
    (cases_Bool (eqb c 10))
  where
    grow_append : (c : ℕ) (s : List ℕ) (fs : List (List ℕ)) → grow c (ended (s ++ 10 ∷ []) ++ fs) ≡ grow c (ended (s ++ 10 ∷ [])) ++ fs
    grow_append c [] fs = refl
    grow_append c (d ∷ s) fs = rw (ended_first d (s ++ 10 ∷ [])) refl

lines_append : (s t : List ℕ) → lines_of ((s ++ 10 ∷ []) ++ t) ≡ lines_of (s ++ 10 ∷ []) ++ lines_of t
lines_append s t = ap lines_of (append_assoc s (10 ∷ []) t) ∙ ap (map without_cr) (ended_append s t) ∙ map-append without_cr (ended (s ++ 10 ∷ [])) (ended t)

pub lines_cut : (s : List ℕ) (n : ℕ) → n < length s → get_or s n 0 ≡ 10 → lines_of s ≡ lines_of (take (n + 1) s) ++ lines_of (drop (n + 1) s)
lines_cut s n h e =
    let front : take (n + 1) s ≡ take n s ++ 10 ∷ [] = take_more s n 0 h ∙ ap (λ c. take n s ++ c ∷ []) e in
    ap lines_of (sym (take-append-drop (n + 1) s) ∙ ap (λ l. l ++ drop (n + 1) s) front) ∙ lines_append (take n s) (drop (n + 1) s) ∙ ap (λ l. lines_of l ++ lines_of (drop (n + 1) s)) (sym front)
