-- A test of each point behind the one before it, as a check of a row.
use Rattle.std.proofs.Common.{◌≡◌, ℕ, zero, suc, ◌-◌, ◌<◌, Bool, false, List, length, IfSome, Decides, MatchResult, Option, Result, Ok, Err, refl, arith}
use Rattle.std.specs.Result.{IsErrAnd}
use Rattle.std.proofs.lemmas.Bool.Decides.{not_from_Decides}
use Rattle.std.proofs.lemmas.Result.{err_from_is_err_and}
use Rattle.numbers.specs.Checks.{each, Checked}
use Rattle.curves.specs.declared.points.Point.{Point}
use Rattle.curves.specs.declared.points.CurveRefusal.{CurveRefusal}
use Rattle.curves.specs.Shape.{at}
use Rattle.curves.specs.Submission.{number_of, place_of}
use Rattle.curves.specs.Misfits.{before, AllFit, Misfit}

-- a point is inside, and stands behind the one before it as it must
module _ (In : Point → Type 0) (Behind : Point → Point → Type 0) where
  abbrev pub Fits : Option Point → Point → Type 0
  Fits one p = In p × IfSome one (λ b. Behind b p)

  abbrev pub Good : List Point → ℕ → Type 0
  Good ps k = In (at ps k) × (0 < k → Behind (at ps (k - 1)) (at ps k))

  fits_good : (ps : List Point) (k : ℕ) → Fits (before ps k) (at ps k) → Good ps k
  fits_good ps zero f = (f.0, λ h. absurd (omega arith))
  fits_good ps (suc k) f = let e : suc k - 1 ≡ k = omega arith in (f.0, λ _. rw e f.1)

  good_fits : (ps : List Point) (k : ℕ) → Good ps k → Fits (before ps k) (at ps k)
  good_fits ps zero g = (g.0, tt)
  good_fits ps (suc k) g = let e : suc k - 1 ≡ k = omega arith in (g.0, rw e at (g.1 (omega arith)))

  -- what the call of a test says, beside its arguments after the call
  abbrev pub Says : Option Point → Point → Bool → Type 0
  Says one p answer = Option Point × Point × Decides answer (Fits one p)

  -- a check of each point, from what the search for the first that does not fit answers
  pub checked : (ps : List Point) (number : ℕ) (why : ℕ → CurveRefusal) → ((place : ℕ) → (number_of (why place) ≡ number) × (place_of (why place) ≡ place))
      → (found : Result (Unit {0}) ℕ) (answer : Result (Unit {0}) CurveRefusal)
      → MatchResult found (λ _. AllFit Says ps) (Misfit Says ps)
      → MatchResult found (λ x. answer ≡ Ok x) (λ place. IsErrAnd answer (λ refusal. refusal ≡ why place))
      → Checked number_of place_of (each number (length ps) (Good ps)) answer
  checked ps number why told (Ok x) answer fit same = rw same (λ k h. fits_good ps k ((fit k h).2.0 refl))
  checked ps number why told (Err place) answer misfit same =
      let refused = err_from_is_err_and answer same in
      let told = told place in
      rw (refused.1, refused.2, told.0, told.1) (
        refl,
        misfit.0,
        (
          omega (arith, misfit.0, misfit.1),
          λ good. not_from_Decides false misfit.2.2 refl (good_fits ps (place - 1) good),
          λ k h. fits_good ps k ((misfit.3 k h).2.0 refl),
        ),
      )
