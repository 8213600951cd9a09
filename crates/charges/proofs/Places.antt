-- Laws of a layer's table: where a resource is, and what a write to its place does.
use Rattle.std.proofs.Common.{◌≡◌, ℕ, zero, suc, ◌+◌, ◌-◌, ◌<◌, ◌≤◌, Bool, true, false, cond, eqb, ltb, List, [], ◌∷◌, length, get_or, set, replicate, map, ◌==◌, ℤ, pos, is_some, Some, None, MatchOption, count_by, find, position, Option, sym, refl, ap, ◌∙◌, subst, ◌⊎◌, inl, inr, ⊎_elim, arith, length-set, get_or-set_same, get_or-set_other}
use mathlib.Core.Path.{fun_ext}
use Rattle.std.specs.List.{list_any, position_or_len, position_from}
use Rattle.std.proofs.lemmas.Iterator.Adapters.{position_from-zero}
use Rattle.std.specs.Option.{option_map, option_or}
use Rattle.std.proofs.lemmas.List.Sums.{sum_by-set, sum_by-cons, count_by-le-length, get_or-le-sum_by}
use Rattle.std.proofs.lemmas.List.Folds.{find_past}
use Rattle.std.proofs.lemmas.List.Quantifiers.{position-Some}
use Rattle.std.proofs.lemmas.Bool.{eqb-true, eq-eqb, ne_eqb, cases_Bool, cases_eq, cases_lt, lt-ltb, true≢false}
use Rattle.std.proofs.lemmas.Option.{none-some}
use Rattle.std.proofs.lemmas.List.{get_or_default, get_or-replicate, length-replicate}
use Rattle.charges.specs.declared.figure.Figure.{Figure}
use Rattle.charges.specs.Refusals.{InRange}
use Rattle.charges.specs.Settings.{changed}
use Rattle.charges.specs.Table.{has_resource, number_at, is_free, figure_at, held_in, held_count, Once, Known, FreeFrom, place_for}

abbrev tick : Bool → ℕ
tick b = cond b 1 0

tick_most : (b : Bool) → tick b ≤ 1
tick_most true = omega arith
tick_most false = omega arith

-- nothing passes the test
none_passes : {X : Type 0} (p : X → Bool) (xs : List X) → count_by p xs ≡ 0 → find p xs ≡ None
none_passes p [] h = refl
none_passes p (x ∷ xs) h =
    let parts = sum_by-cons (λ y. tick (p y)) x xs in
    ⊎_elim
    (λ e. let here : tick (p x) ≡ 1 = rw e in absurd (omega arith))
    (λ e. rw e (none_passes p xs (omega arith)))
    (cases_Bool (p x))

-- what passes alone is found
one_passes : {X : Type 0} (p : X → Bool) (xs : List X) (i : ℕ) (d : X) → count_by p xs ≤ 1 → i < length xs → p (get_or xs i d) ≡ true → find p xs ≡ Some (get_or xs i d)
one_passes p [] i d few h e = absurd (omega arith)
one_passes p (x ∷ xs) zero d few h e = rw e
one_passes p (x ∷ xs) (suc i) d few h e =
    let parts = sum_by-cons (λ y. tick (p y)) x xs in
    let there : tick (p (get_or xs i d)) ≡ 1 = rw e in
    let some = get_or-le-sum_by (λ y. tick (p y)) xs i d (omega arith) in
    ⊎_elim
    (λ q. let here : tick (p x) ≡ 1 = rw q in absurd (omega arith))
    (λ q. rw q (one_passes p xs i d (omega arith) (omega arith) e))
    (cases_Bool (p x))

-- where no place is found, none passes
no_position : {X : Type 0} (p : X → Bool) (xs : List X) → length xs ≤ position_or_len p xs → count_by p xs ≡ 0
no_position p [] h = refl
no_position p (x ∷ xs) h =
    let parts = sum_by-cons (λ y. tick (p y)) x xs in
    ⊎_elim
    (λ e. let here : position_or_len p (x ∷ xs) ≡ 0 = rw e in absurd (omega arith))
    (λ e. let later : position_or_len p (x ∷ xs) ≡ 1 + position_or_len p xs = rw e in
    let none : tick (p x) ≡ 0 = rw e in
    omega (arith, no_position p xs (omega arith)))
    (cases_Bool (p x))

-- where a place is found, it passes, and is within the list
found : {X : Type 0} (p : X → Bool) (xs : List X) (i : ℕ) (d : X) → position p xs ≡ Some i → (i < length xs) × (p (get_or xs i d) ≡ true)
found p xs i d e = let h = position-Some p xs i d e in (h.0, h.1)

-- where none is, none passes
none_at : {X : Type 0} (p : X → Bool) (xs : List X) → position p xs ≡ None → count_by p xs ≡ 0
none_at p xs e = no_position p xs (past (position_or_len p xs) (length xs) e)
  where
    past : (i n : ℕ) → cond (ltb i n) (Some i) None ≡ None → n ≤ i
    past i n e = ⊎_elim (λ lt. absurd (none-some i (sym (rw (lt-ltb i n lt) at e)))) (λ le. le) (cases_lt i n)

-- with no free place, as many are held as there are places
full : (rows : List (Option Figure)) → count_by is_free rows ≡ 0 → held_count rows ≡ length rows
full [] h = refl
full (None ∷ rows) h = let parts = sum_by-cons (λ row. tick (is_free row)) None rows in absurd (omega arith)
full (Some held ∷ rows) h =
    let free = sum_by-cons (λ row. tick (is_free row)) (Some held) rows in
    let some = sum_by-cons (λ row. tick (is_some row)) (Some held) rows in
    omega (arith, full rows (omega arith))

-- the row in which resource r has o
abbrev pub row_of : ℕ → Option ℤ → Option Figure
row_of r o = option_map (λ f. record { resource = r; figure = f }) o

-- a place where resource r may be written: r has it, or it is free and r has none
pub record Place (rows : List (Option Figure)) (r i : ℕ) : Type 0 where
  pub within : i < length rows
  pub others : (k : ℕ) → (k ≡ r → ⊥) → has_resource k (get_or rows i None) ≡ false
  pub counted : count_by (has_resource r) rows ≡ tick (has_resource r (get_or rows i None))
  pub held : held_in rows r ≡ figure_at (get_or rows i None)

-- a row that has r has no other
only : (row : Option Figure) (r k : ℕ) → has_resource r row ≡ true → (k ≡ r → ⊥) → has_resource k row ≡ false
only None r k e ne = refl
only (Some held) r k e ne = ne_eqb held.resource k (λ q. ne (sym q ∙ eqb-true held.resource r e))

pub own_place : (rows : List (Option Figure)) (r i : ℕ) → Once rows → position (has_resource r) rows ≡ Some i → Place rows r i
own_place rows r i once e =
    let at = found (has_resource r) rows i None e in
    let one : tick (has_resource r (get_or rows i None)) ≡ 1 = rw at.1 in
    record {
      within = at.0;
      others = λ k ne. only (get_or rows i None) r k at.1 ne;
      counted = omega (arith, once r, get_or-le-sum_by (λ row. tick (has_resource r row)) rows i None at.0);
      held = rw (one_passes (has_resource r) rows i None (once r) at.0 at.1);
    }

pub no_place : (rows : List (Option Figure)) (r : ℕ) → position (has_resource r) rows ≡ None → held_in rows r ≡ None
no_place rows r e = rw (none_passes (has_resource r) rows (none_at (has_resource r) rows e))

free_row : (row : Option Figure) → is_free row ≡ true → row ≡ None
free_row None e = refl
free_row (Some held) e = absurd (true≢false (sym e))

pub free_place : (rows : List (Option Figure)) (r i : ℕ) → position (has_resource r) rows ≡ None → position is_free rows ≡ Some i → Place rows r i
free_place rows r i e f =
    let at = found is_free rows i None f in
    let free = free_row (get_or rows i None) at.1 in
    let gone = none_at (has_resource r) rows e in
    record {
      within = at.0;
      others = λ k ne. rw free;
      counted = rw free gone;
      held = rw (free, none_passes (has_resource r) rows gone);
    }

-- where a place is free, fewer are held than there are places
pub fewer : (rows : List (Option Figure)) (i : ℕ) → position is_free rows ≡ Some i → held_count rows < length rows
fewer rows i f =
    let at = found is_free rows i None f in
    let free : tick (is_some (get_or rows i None)) ≡ 0 = rw (free_row (get_or rows i None) at.1) in
    let row : Option Figure = Some (record { resource = 1; figure = pos 0 }) in
    omega (arith, sum_by-set (λ x. tick (is_some x)) rows i row None at.0, count_by-le-length is_some (set rows i row), length-set rows i row)

-- after a write resource r has o, and each other resource has what it had
pub record Wrote (rows after : List (Option Figure)) (r : ℕ) (o : Option ℤ) : Type 0 where
  pub map : held_in after ≡ changed (held_in rows) r o
  pub size : held_count after + tick (is_some (held_in rows r)) ≡ held_count rows + tick (is_some o)
  pub many : length after ≡ length rows
  pub once : Once after

some_row : (r : ℕ) (o : Option ℤ) → is_some (row_of r o) ≡ is_some o
some_row r None = refl
some_row r (Some f) = refl

some_figure : (row : Option Figure) → is_some (figure_at row) ≡ is_some row
some_figure None = refl
some_figure (Some held) = refl

other_row : (r : ℕ) (o : Option ℤ) (k : ℕ) → (k ≡ r → ⊥) → has_resource k (row_of r o) ≡ false
other_row r None k ne = refl
other_row r (Some f) k ne = ne_eqb r k (λ q. ne (sym q))

-- what is written at r's place is all that r has
alone : (rows : List (Option Figure)) (r i : ℕ) (o : Option ℤ) → i < length rows → count_by (has_resource r) rows ≡ tick (has_resource r (row_of r o)) → get_or rows i None ≡ row_of r o → held_in rows r ≡ o
alone rows r i None h few e = rw (none_passes (has_resource r) rows few)
alone rows r i (Some f) h few e =
    let here : has_resource r (get_or rows i None) ≡ true = rw e (eq-eqb r r refl) in
    let one : tick (eqb r r) ≡ 1 = rw (eq-eqb r r refl) in
    rw (one_passes (has_resource r) rows i None (omega arith) h here, e)

pub written : (rows : List (Option Figure)) (r i : ℕ) (o : Option ℤ) → Once rows → Place rows r i → Wrote rows (set rows i (row_of r o)) r o
written rows r i o once place =
    let row = row_of r o in
    let after = set rows i row in
    let within = place.within in
    let count : (k : ℕ) → count_by (has_resource k) after + tick (has_resource k (get_or rows i None)) ≡ count_by (has_resource k) rows + tick (has_resource k row) = λ k. sum_by-set (λ x. tick (has_resource k x)) rows i row None within in
    let here : get_or after i None ≡ row = get_or-set_same rows i row None within in
    let inside : i < length after = omega (arith, length-set rows i row) in
    record {
      map = fun_ext (λ k. ⊎_elim
          (λ same. rw (eq-eqb k r same, same) (alone after r i o inside (omega (arith, count r, place.counted)) here))
          (λ ne. rw (ne_eqb k r ne, find_past (has_resource k) rows i row None (place.others k ne) (other_row r o k ne)))
          (cases_eq k r));
      size = rw (place.held, some_figure (get_or rows i None), ← some_row r o) (sum_by-set (λ x. tick (is_some x)) rows i row None within);
      many = length-set rows i row;
      once = λ k. ⊎_elim
          (λ same. rw same (omega (arith, count r, place.counted, tick_most (has_resource r row))))
          (λ ne. let old : tick (has_resource k (get_or rows i None)) ≡ 0 = rw (place.others k ne) in
          let new : tick (has_resource k row) ≡ 0 = rw (other_row r o k ne) in
          omega (arith, count k, once k))
          (cases_eq k r);
    }

-- what is held is still in range
known_row : (r : ℕ) (o : Option ℤ) → MatchOption o (Unit {0}) (λ f. InRange r f) → MatchOption (row_of r o) (Unit {0}) (λ held. InRange held.resource held.figure)
known_row r None ok = tt
known_row r (Some f) ok = ok

pub known_written : (rows : List (Option Figure)) (r i : ℕ) (o : Option ℤ) → i < length rows → MatchOption o (Unit {0}) (λ f. InRange r f) → Known rows → Known (set rows i (row_of r o))
known_written rows r i o within ok known held at =
    let row = row_of r o in
    let k : ℕ = at.0 in
    let inside : k < length rows = omega (arith, at.1, length-set rows i row) in
    ⊎_elim
    (λ same. let is : row ≡ Some held = sym (get_or-set_same rows i row (Some held) within) ∙ ap (λ j. get_or (set rows i row) j (Some held)) (sym same) ∙ at.2 in
    let P : Option Figure → Type 0 = λ x. MatchOption x (Unit {0}) (λ h. InRange h.resource h.figure) in
    subst P is (known_row r o ok))
    (λ ne. known held (k, inside, sym (get_or-set_other rows i k row (Some held) ne) ∙ at.2))
    (cases_eq k i)

-- nothing is held where every place is free
pub known_free : (n : ℕ) → Known (replicate n None)
known_free n held at = absurd (none-some held (sym (get_or-replicate n at.0 None (Some held) (rw length-replicate at at.1)) ∙ at.2))

-- what stands at r's place
own_row : (rows : List (Option Figure)) (r i : ℕ) → position (has_resource r) rows ≡ Some i → (held : Figure) × (get_or rows i (Some held) ≡ Some held) × (held.resource ≡ r) × (i < length rows)
own_row rows r i e =
    let at = found (has_resource r) rows i None e in
    of (get_or rows i None) refl at.1 at.0
  where
    of : (row : Option Figure) → get_or rows i None ≡ row → has_resource r row ≡ true → i < length rows → (held : Figure) × (get_or rows i (Some held) ≡ Some held) × (held.resource ≡ r) × (i < length rows)
    of None e h lt = absurd (true≢false (sym h))
    of (Some held) e h lt = (held, get_or_default rows i (Some held) None lt ∙ e, eqb-true held.resource r h, lt)

pub own_known : (rows : List (Option Figure)) (r i : ℕ) → Known rows → position (has_resource r) rows ≡ Some i → (1 ≤ r) × (r ≤ 9999)
own_known rows r i known e =
    let own = own_row rows r i e in
    let ok = known own.0 (i, own.3, own.1) in
    (omega (arith, ok.0, own.2), omega (arith, ok.1, own.2))

pub own_held : (rows : List (Option Figure)) (r i : ℕ) → Once rows → position (has_resource r) rows ≡ Some i → is_some (held_in rows r) ≡ true
own_held rows r i once e = ap is_some (own_place rows r i once e).held ∙ of (get_or rows i None) (found (has_resource r) rows i None e).1
  where
    of : (row : Option Figure) → has_resource r row ≡ true → is_some (figure_at row) ≡ true
    of None h = h
    of (Some held) h = refl

-- the place of one of two searches
or_some : (o p : Option ℕ) (i : ℕ) → option_or o p ≡ Some i → (o ≡ Some i) ⊎ ((o ≡ None) × (p ≡ Some i))
or_some None p i e = inr (refl, e)
or_some (Some x) p i e = inl e

or_none : (o p : Option ℕ) → option_or o p ≡ None → (o ≡ None) × (p ≡ None)
or_none None p e = (refl, e)
or_none (Some x) p e = absurd (none-some x (sym e))

-- a setting finds a place exactly where there is one
pub set_place : (rows : List (Option Figure)) (r i : ℕ) → length rows ≡ 32 → Once rows → place_for rows r ≡ Some i → Place rows r i × ((is_some (held_in rows r) ≡ true) ⊎ (held_count rows < 32))
set_place rows r i many once e = ⊎_elim
    (λ own. (own_place rows r i once own, inl (own_held rows r i once own)))
    (λ free. (free_place rows r i free.0 free.1, inr (omega (arith, fewer rows i free.1))))
    (or_some (position (has_resource r) rows) (position is_free rows) i e)

pub set_full : (rows : List (Option Figure)) (r : ℕ) → length rows ≡ 32 → place_for rows r ≡ None → (is_some (held_in rows r) ≡ true) ⊎ (held_count rows < 32) → ⊥
set_full rows r many e has =
    let none = or_none (position (has_resource r) rows) (position is_free rows) e in
    ⊎_elim
    (λ yes. true≢false (sym yes ∙ ap is_some (no_place rows r none.0)))
    (λ less. omega (arith, full rows (none_at is_free rows none.1)))
    has

-- how many are held after a setting, and after a removal
pub size_more : (b : Bool) (after before : ℕ) → after + tick b ≡ before + 1 → after ≡ cond b before (before + 1)
size_more true after before e = omega arith
size_more false after before e = omega arith

pub size_less : (b : Bool) (after before : ℕ) → after + tick b ≡ before + 0 → after ≡ cond b (before - 1) before
size_less true after before e = omega arith
size_less false after before e = omega arith

-- nothing changes where r has nothing
pub same_map : (rows : List (Option Figure)) (r : ℕ) → held_in rows r ≡ None → held_in rows ≡ changed (held_in rows) r None
same_map rows r none = fun_ext (λ k. ⊎_elim (λ same. rw (eq-eqb k r same, same) none) (λ ne. rw (ne_eqb k r ne)) (cases_eq k r))

-- nothing is held where every place is free
all_free : (rows : List (Option Figure)) (r i : ℕ) → FreeFrom 0 rows → position_from (has_resource r) i rows ≡ None
all_free [] r i free = refl
all_free (x ∷ rows) r i free = rw (free 0 (omega arith)) (all_free rows r (i + 1) (λ k h. free (suc k) (omega arith)))

-- a resource has the same place among the numbers as among the rows
numbered_from : (rows : List (Option Figure)) (r i : ℕ) → 1 ≤ r → position_from (λ n. n == r) i (map number_at rows) ≡ position_from (has_resource r) i rows
numbered_from [] r i low = refl
numbered_from (None ∷ rows) r i low = rw (ne_eqb 0 r (λ e. omega arith)) (numbered_from rows r (i + 1) low)
numbered_from (Some held ∷ rows) r i low = rw (numbered_from rows r (i + 1) low)

pub position_numbered : (rows : List (Option Figure)) (r : ℕ) → 1 ≤ r → position (λ n. n == r) (map number_at rows) ≡ position (has_resource r) rows
position_numbered rows r low = position_from-zero (λ n. n == r) (map number_at rows) ∙ numbered_from rows r 0 low ∙ sym (position_from-zero (has_resource r) rows)

-- a resource is among the numbers where it is held
pub any_numbered : (rows : List (Option Figure)) (r : ℕ) → 1 ≤ r → list_any (λ n. n == r) (map number_at rows) ≡ is_some (held_in rows r)
any_numbered [] r low = refl
any_numbered (None ∷ rows) r low = rw (ne_eqb 0 r (λ e. omega arith)) (any_numbered rows r low)
any_numbered (Some held ∷ rows) r low = ⊎_elim (λ e. rw e) (λ e. rw e (any_numbered rows r low)) (cases_Bool (held.resource == r))

-- resource 0 is held nowhere
pub none_at_zero : (rows : List (Option Figure)) (r : ℕ) → Known rows → r ≡ 0 → position (has_resource r) rows ≡ None
none_at_zero rows r known is = of (position (has_resource r) rows) refl
  where
    of : (o : Option ℕ) → position (has_resource r) rows ≡ o → o ≡ None
    of None e = refl
    of (Some i) e = let low = (own_known rows r i known e).0 in absurd (omega arith)

pub none_among_free : (rows : List (Option Figure)) (r : ℕ) → FreeFrom 0 rows → position (has_resource r) rows ≡ None
none_among_free rows r free = position_from-zero (has_resource r) rows ∙ all_free rows r 0 free

pub none_free : (n : ℕ) → FreeFrom 0 (replicate n None)
none_free zero i h = refl
none_free (suc n) zero h = refl
none_free (suc n) (suc i) h = none_free n i (omega arith)

-- what a write leaves free
pub free_written : (rows : List (Option Figure)) (i n m : ℕ) (row : Option Figure) → FreeFrom n rows → n ≤ m → i < m → FreeFrom m (set rows i row)
free_written rows i n m row free more past k h = get_or-set_other rows i k row None (λ same. omega arith) ∙ free k (omega arith)

pub free_cleared : (rows : List (Option Figure)) (i n m : ℕ) → FreeFrom n rows → i < length rows → (n ≤ m) ⊎ ((n ≡ i + 1) × (m ≡ i)) → FreeFrom m (set rows i None)
free_cleared rows i n m free within end k h = ⊎_elim
    (λ same. rw same (get_or-set_same rows i None None within))
    (λ ne. get_or-set_other rows i k None None ne ∙ free k (⊎_elim (λ more. omega arith) (λ last. omega (arith, ne)) end))
    (cases_eq k i)
