-- A look-up in a directory finds the record that a search from the front finds.
use Rattle.std.proofs.Common.{◌≡◌, ℕ, zero, suc, ◌-◌, Bool, true, List, [], ◌∷◌, None, Some, slice_get, get_or, ◌==◌, ◌&&◌, ap, refl, ◌∙◌, arith}
use Rattle.std.specs.Bool.{Decides}
use Rattle.std.specs.List.{find}
use Rattle.std.proofs.lemmas.Bool.{cond-true, cond_both}
use Rattle.std.proofs.lemmas.Option.{slice_get-get_or}
use Rattle.std.proofs.lemmas.Bool.Decides.{Decides-and, Decides-eqb, Decides-like}
use Rattle.directory.specs.Kinds.{Kind, HasAt, Found}
use Rattle.curves.specs.declared.points.SubmittedCurve.{SubmittedCurve}
use Rattle.curves.specs.Keys.{curve_kind}
use Rattle.readers.specs.Emergency.{submitted_for}

module _ {R K : Type 0} (kind : Kind R K) (p : R → Bool) (key : K) (says : (x : R) → Decides (p x) (kind.key_of x ≡ key)) where
  -- the first record has the key
  here : (x : R) (xs : List R) → p x ≡ true → HasAt kind (x ∷ xs) key 1
  here x xs e = (omega arith, omega arith, λ d. (says x).0 e)

  -- a record behind the first has it
  behind : (x : R) (xs : List R) (place : ℕ) → HasAt kind xs key place → HasAt kind (x ∷ xs) key (suc place)
  behind x xs zero h = absurd (omega (arith, h.0))
  behind x xs (suc m) h =
      let new : suc (suc m) - 1 ≡ suc m = omega arith in
      let old : suc m - 1 ≡ m = omega arith in
      (omega arith, omega (arith, h.1), λ d. rw new (rw old at (h.2 d)))

  -- and so does one behind it, among those behind
  before : (x : R) (xs : List R) (m : ℕ) → HasAt kind (x ∷ xs) key (suc (suc m)) → HasAt kind xs key (suc m)
  before x xs m h =
      let new : suc (suc m) - 1 ≡ suc m = omega arith in
      let old : suc m - 1 ≡ m = omega arith in
      (omega arith, omega (arith, h.1), λ d. rw old (rw new at (h.2 d)))

  pub none_found : (xs : List R) → Found kind xs key None → find p xs ≡ None
  none_found [] f = refl
  none_found (x ∷ xs) f =
      cond_both (p x) (Some x) (find p xs) (λ r. r ≡ None)
      (λ e. absurd (f 1 (here x xs e)))
      (λ e. none_found xs (λ place h. f (suc place) (behind x xs place h)))

  pub one_found : (xs : List R) (place : ℕ) → Found kind xs key (Some place) → find p xs ≡ slice_get xs (place - 1)
  one_found [] place f = absurd (omega (arith, f.0.0, f.0.1))
  one_found (x ∷ xs) zero f = absurd (omega (arith, f.0.0))
  one_found (x ∷ xs) (suc zero) f = cond-true (p x) _ _ ((says x).1 (f.0.2 x))
  one_found (x ∷ xs) (suc (suc m)) f =
      let new : suc (suc m) - 1 ≡ suc m = omega arith in
      let old : suc m - 1 ≡ m = omega arith in
      rw new (cond_both (p x) (Some x) (find p xs) (λ r. r ≡ slice_get (x ∷ xs) (suc m))
      (λ e. let clash = f.1 1 (here x xs e) in absurd (omega (arith, clash)))
      (λ e. rw old at (one_found xs (suc m) (before x xs m f.0, λ other h. let same = f.1 (suc other) (behind x xs other h) in omega (arith, same)))))

-- of submitted curves, the key is the resource and the hour
has_key : (resource hour : ℕ) (c : SubmittedCurve) → Decides (c.resource == resource && c.hour == hour) (◌≡◌ {A = ℕ × ℕ} (c.resource, c.hour) (resource, hour))
has_key resource hour c = Decides-like _ (λ q. rw (q.0, q.1) refl) (λ e. (ap (λ k. k.0) e, ap (λ k. k.1) e)) (Decides-and _ _ (Decides-eqb c.resource resource) (Decides-eqb c.hour hour))

pub curve_found : (curves : List SubmittedCurve) (resource hour place : ℕ) (d : SubmittedCurve) → Found curve_kind curves (resource, hour) (Some place) → submitted_for curves resource hour ≡ Some (get_or curves (place - 1) d)
curve_found curves resource hour place d f = one_found curve_kind _ (resource, hour) (has_key resource hour) curves place f ∙ slice_get-get_or curves (place - 1) d (omega (arith, f.0.0, f.0.1))

pub no_curve_found : (curves : List SubmittedCurve) (resource hour : ℕ) → Found curve_kind curves (resource, hour) None → submitted_for curves resource hour ≡ None
no_curve_found curves resource hour f = none_found curve_kind _ (resource, hour) (has_key resource hour) curves f

pub ruleset looked_up = (curve_found, no_curve_found)
