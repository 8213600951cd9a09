-- Laws of lines: those of rows, of layers and of sources made by a function, by number, and their limits. Proved here.
use Rattle.std.specs.Prelude.{◌≡◌, ℕ, zero, suc, ◌+◌, ◌-◌, ◌<◌, ◌≤◌, ◌||◌, ◌⊎◌, List, [], ◌∷◌, length, Ok, Err, nat_lt, slice_get, slice_index_or, unsigned_abs, refl}
use Rattle.std.specs.Option.{option_map_or}
use Rattle.std.proofs.Common.{sym, ap, ◌∙◌, subst, inl, inr, ⊎_elim, add-one, arith}
use Rattle.std.proofs.lemmas.List.FromFn.{length-map-range_with_len, get_or-map-range_with_len}
use Rattle.std.proofs.lemmas.List.{get_or_past, get_or_default}
use Rattle.std.proofs.lemmas.Bool.{cond_both, ltb-false, or_parts, cases_lt}
use Rattle.charges.specs.declared.listed.ListedRow.{ListedRow}
use Rattle.charges.specs.Lines.{Entry, Line, line_at, no_line, Ranged, Sound, Based}
use Rattle.charges.specs.Layers.{on_entry, layered}
use Rattle.charges.specs.Listed.{listed_line}
use Rattle.charges.specs.Rows.{numbered, row_at, lines_by}

pub length_numbered : {X Y : Type 0} (f : ℕ → X → Y) (k : ℕ) (xs : List X) → length (numbered f k xs) ≡ length xs
length_numbered f k [] = refl
length_numbered f k (x ∷ xs) = ap suc (length_numbered f (k + 1) xs)

-- what stands at i
pub get_numbered : {X Y : Type 0} (f : ℕ → X → Y) (k : ℕ) (xs : List X) (i j : ℕ) (none : Y) → k + i ≡ j → slice_index_or (numbered f k xs) i none ≡ option_map_or (f j) (slice_get xs i) none
get_numbered f k [] i j none e = refl
get_numbered f k (x ∷ xs) zero j none e = let same : k ≡ j = omega arith in ap (λ m. f m x) same
get_numbered f k (x ∷ xs) (suc i) j none e = get_numbered f (k + 1) xs i j none (omega arith)

-- with a default that f makes of a default
pub get_d_numbered : {X Y : Type 0} (f : ℕ → X → Y) (k : ℕ) (xs : List X) (i j : ℕ) (d : X) → k + i ≡ j → slice_index_or (numbered f k xs) i (f j d) ≡ f j (slice_index_or xs i d)
get_d_numbered f k [] i j d e = refl
get_d_numbered f k (x ∷ xs) zero j d e = let same : k ≡ j = omega arith in ap (λ m. f m x) same
get_d_numbered f k (x ∷ xs) (suc i) j d e = get_d_numbered f (k + 1) xs i j d (omega arith)

-- what stands at n, counted from 1, of one value for each row: f of row n, or none
pub at_numbered : {X Y : Type 0} (f : ℕ → X → Y) (xs : List X) (n : ℕ) (none : Y) → slice_index_or (none ∷ numbered f 1 xs) n none ≡ option_map_or (f n) (row_at xs n) none
at_numbered f xs zero none = refl
at_numbered f xs (suc m) none = get_numbered f 1 xs m (suc m) none (omega arith)

-- where there is such a row
pub at_row : {X Y : Type 0} (f : ℕ → X → Y) (xs : List X) (n : ℕ) (d : X) (none : Y) → 1 ≤ n → n ≤ length xs → slice_index_or (none ∷ numbered f 1 xs) n none ≡ f n (slice_index_or xs (n - 1) d)
at_row f xs zero d none low high = absurd (omega arith)
at_row f xs (suc m) d none low high =
    let back : suc m - 1 ≡ m = omega arith in
    let within : m < length (numbered f 1 xs) = rw length_numbered (omega arith) in
    get_or_default (numbered f 1 xs) m none (f (suc m) d) within ∙ get_d_numbered f 1 xs m (suc m) d (omega arith) ∙ ap (λ i. f (suc m) (slice_index_or xs i d)) (sym back)

-- and outside the list
pub at_none : {Y : Type 0} (ys : List Y) (n : ℕ) (none : Y) → (n < 1) ⊎ (length ys < n) → slice_index_or (none ∷ ys) n none ≡ none
at_none ys zero none h = refl
at_none ys (suc m) none (inl h) = absurd (omega arith)
at_none ys (suc m) none (inr h) = get_or_past ys m none (omega arith)

pub at_norow : {X Y : Type 0} (f : ℕ → X → Y) (xs : List X) (n : ℕ) (none : Y) → (n < 1) ⊎ (length xs < n) → slice_index_or (none ∷ numbered f 1 xs) n none ≡ none
at_norow f xs n none h = at_none (numbered f 1 xs) n none (rw length_numbered h)

-- a source without a line is within the limits
pub none_sound : Sound []
none_sound = record { ranged = at }
  where
    at : (n : ℕ) → Ranged (line_at [] n)
    at zero = tt
    at (suc m) = tt

pub line_at_next : (ls : List Line) (i : ℕ) → line_at ls (i + 1) ≡ slice_index_or ls i (no_line (i + 1))
line_at_next ls i = rw add-one

-- a source of one line for each row, each within the limits
module _ {R : Type 0} (f : ℕ → R → Line) (ranged : (n : ℕ) (x : R) → Ranged (f n x)) where
  each : (rows : List R) (k i n : ℕ) → Ranged (slice_index_or (numbered f k rows) i (no_line n))
  each [] k i n = tt
  each (x ∷ xs) k zero n = ranged k x
  each (x ∷ xs) k (suc i) n = each xs (k + 1) i n

  pub rows_sound : (rows : List R) → Sound (numbered f 1 rows)
  rows_sound rows = record { ranged = at }
    where
      at : (n : ℕ) → Ranged (line_at (numbered f 1 rows) n)
      at zero = tt
      at (suc m) = each rows 1 m (suc m)

-- a listed row is within the limits
pub listed_ranged : (n : ℕ) (row : ListedRow) → Ranged (listed_line n row)
listed_ranged n row =
    cond_both (nat_lt row.resource 1 || nat_lt 9999 row.resource) _ _ Ranged (λ _. tt)
    (λ r. let both = or_parts (nat_lt row.resource 1) (nat_lt 9999 row.resource) r in
    cond_both (nat_lt 3000000000 (unsigned_abs row.amount)) _ _ Ranged (λ _. tt)
    (λ a. (ltb-false row.resource 1 both.0, ltb-false 9999 row.resource both.1, ltb-false 3000000000 (unsigned_abs row.amount) a)))

-- line n of a source whose lines are made by a function
module _ (f : ℕ → Line) (count : ℕ) where
  pub line_at_made : (n : ℕ) → 1 ≤ n → n ≤ count → line_at (lines_by f count) n ≡ f n
  line_at_made zero low high = absurd (omega arith)
  line_at_made (suc m) low high = get_or-map-range_with_len f 1 count m (suc m) (no_line (suc m)) (omega arith) (omega arith)

  pub line_at_unmade : (n : ℕ) → (n < 1) ⊎ (count < n) → line_at (lines_by f count) n ≡ no_line n
  line_at_unmade n h = at_none (lines_by f count) n (no_line n) (rw (length-map-range_with_len f 1 count) h)

  pub made_sound : ((n : ℕ) → Ranged (f n)) → Sound (lines_by f count)
  made_sound ranged = record { ranged = at }
    where
      at : (n : ℕ) → Ranged (line_at (lines_by f count) n)
      at zero = tt
      at (suc m) = ⊎_elim
          (λ lt. subst Ranged (sym (line_at_made (suc m) (omega arith) (omega arith))) (ranged (suc m)))
          (λ le. subst Ranged (sym (line_at_unmade (suc m) (inr (omega arith)))) tt)
          (cases_lt m count)

-- line n of a layer
pub line_at_layered : (f : ℕ → Entry → Line) (ls : List Line) (n : ℕ) → line_at (layered f ls) n ≡ on_entry (f n) (line_at ls n)
line_at_layered f ls zero = refl
line_at_layered f ls (suc m) = get_d_numbered (λ n l. on_entry (f n) l) 1 ls m (suc m) (no_line (suc m)) (omega arith)

-- what a layer answers, from what the source below answered
pub line_at_from : (f : ℕ → Entry → Line) (ls : List Line) (n : ℕ) (l : Line) → l ≡ line_at ls n → on_entry (f n) l ≡ line_at (layered f ls) n
line_at_from f ls n l e = ap (on_entry (f n)) e ∙ sym (line_at_layered f ls n)

-- a layer whose entries stay within the limits
pub sound_layered : (f : ℕ → Entry → Line) (ls : List Line) → ((n : ℕ) (e : Entry) → Ranged (Ok e) → Ranged (f n e)) → Sound ls → Sound (layered f ls)
sound_layered f ls keeps s = record { ranged = λ n. rw (line_at_layered f ls n) (on_line n (line_at ls n) (s.ranged n)) }
  where
    on_line : (n : ℕ) (l : Line) → Ranged l → Ranged (on_entry (f n) l)
    on_line n (Ok e) h = keeps n e h
    on_line n (Err x) h = h

-- a layer that makes entries of entries passes the basis on
pub based_layered : (f : Entry → Entry) (ls : List Line) (n b : ℕ) → Based (line_at ls n) b → Based (line_at (layered (λ k e. Ok (f e)) ls) n) b
based_layered f ls n b h = rw (line_at_layered (λ k e. Ok (f e)) ls n) (on_line (line_at ls n) h)
  where
    on_line : (l : Line) → Based l b → Based (on_entry (λ e. Ok (f e)) l) b
    on_line (Ok e) k = k
    on_line (Err x) k = k

-- an entry that a sound source answers is within the limits
pub entry_ranged : {ls : List Line} → Sound ls → (n : ℕ) (e : Entry) → Ok e ≡ line_at ls n → Ranged (Ok e)
entry_ranged {ls} s n e h = subst Ranged (sym h) (s.ranged n)

-- a basis is at most 1,000,000
pub based_most : (l : Line) (b : ℕ) → Based l b → b ≤ 1000000
based_most (Ok e) b h = h
based_most (Err x) b h = omega arith
