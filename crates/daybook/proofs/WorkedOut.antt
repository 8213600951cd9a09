-- One more row is worked out.
use Rattle.std.proofs.Common.{refl, min, ◌≡◌, ℕ, ◌+◌, ◌<◌, List, [], ◌∷◌, ◌++◌, map, length, get_or, take, sym, ap, ◌∙◌, arith}
use Rattle.std.proofs.lemmas.List.{take_min, map-append, take_more, length-take}
use Rattle.charges.specs.Rows.{numbered}
use Rattle.curves.specs.declared.points.SubmittedCurve.{SubmittedCurve}
use Rattle.emergency.specs.declared.row.EmergencyRow.{EmergencyRow}
use Rattle.readers.specs.declared.worked.WorkedRow.{WorkedRow}
use Rattle.readers.specs.Emergency.{emergency_line, emergency_basis}
use Rattle.daybook.specs.Worked.{WorkedOut}

numbered_more : {X Y : Type 0} (f : ℕ → X → Y) (k m : ℕ) (xs : List X) (x : X) → k + length xs ≡ m → numbered f k (xs ++ x ∷ []) ≡ numbered f k xs ++ f m x ∷ []
numbered_more f k m [] x e = ap (λ n. f n x ∷ []) (omega (arith, e))
numbered_more f k m (y ∷ xs) x e = ap (λ l. f k y ∷ l) (numbered_more f (k + 1) m xs x (omega (arith, e)))

pub one_more : (seconds : List ℕ) (curves : List SubmittedCurve) (rows : List EmergencyRow) (n : ℕ) (none : EmergencyRow) (worked : List WorkedRow) (w : WorkedRow) → n < length rows → WorkedOut seconds curves (take n rows) worked →
    w.line ≡ emergency_line seconds curves (n + 1) (get_or rows n none) → w.basis ≡ emergency_basis seconds curves (get_or rows n none) → WorkedOut seconds curves (take (n + 1) rows) (worked ++ w ∷ [])
one_more seconds curves rows n none worked w lt so_far line basis =
    let more = take_more rows n none lt in (
      map-append (λ v. v.line) worked (w ∷ []) ∙ rw (so_far.0, line) (sym (ap (numbered (emergency_line seconds curves) 1) more ∙ numbered_more (emergency_line seconds curves) 1 (n + 1) (take n rows) (get_or rows n none) (omega (arith, length-take n rows)))),
      map-append (λ v. v.basis) worked (w ∷ []) ∙ rw (so_far.1, basis) (sym (ap (map (emergency_basis seconds curves)) more ∙ map-append (emergency_basis seconds curves) (take n rows) (get_or rows n none ∷ []))),
    )

-- where a row's number does not count
pub told_each : {X Y : Type 0} (f : X → Y) (k : ℕ) (xs : List X) → numbered (λ n x. f x) k xs ≡ map f xs
told_each f k [] = refl
told_each f k (x ∷ xs) = ap (λ ys. f x ∷ ys) (told_each f (k + 1) xs)

-- the first rows of a table, at most so many
pub first_rows : (n : ℕ) (rows : List EmergencyRow) → take (min (length rows) n) rows ≡ take n rows
first_rows n rows = ap (λ m. take m rows) (omega arith) ∙ take_min n rows
