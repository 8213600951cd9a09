-- A sound row completes to a curve's points.
use Rattle.std.proofs.Common.{◌≡◌, ℕ, zero, suc, ◌+◌, ◌-◌, ◌<◌, Bool, true, false, cond, List, [], ◌∷◌, ◌++◌, length, pos, negsuc, ◌-ℤ◌, ◌≤ℤ◌, ◌<ℤ◌, sym, refl, subst, ⊎_elim, append-nil, eq-or-lt_of_le, arith}
use borrow.Author.Differences.{ints}
use lib.Signed.{lt_z, ≤ℤ_refl}
use Rattle.std.specs.Int.{int_min}
use Rattle.std.proofs.lemmas.Int.{clamps}
use Rattle.std.proofs.lemmas.List.{length-append, get_or_append_left, get_or_push}
use Rattle.curves.specs.declared.points.Point.{Point}
use Rattle.curves.specs.declared.points.SubmittedCurve.{SubmittedCurve}
use Rattle.curves.specs.Shape.{at, point, Rising, Inside, InLimits, Shaped}
use Rattle.curves.specs.Submission.{listed}
use Rattle.curves.specs.Completion.{step_up, high_end, completed}
use Rattle.curves.proofs.Soundness.{Sound}

-- one more in front
pub fronted : (p : Point) (ps : List Point) → InLimits p → p.power <ℤ (at ps 0).power → p.price ≤ℤ (at ps 0).price → Shaped ps → Shaped (p ∷ ps)
fronted p ps i x y s = record { some = omega arith; rising = up; inside = in_all }
  where
    up : Rising (p ∷ ps)
    up zero h = (x, y)
    up (suc k) h = let e : suc k + 1 ≡ suc (k + 1) = omega arith in rw e (s.rising k (omega arith))

    in_all : Inside (p ∷ ps)
    in_all zero h = i
    in_all (suc k) h = s.inside k (omega arith)

-- one more behind
pub pushed : (p : Point) (ps : List Point) → InLimits p → (at ps (length ps - 1)).power <ℤ p.power → (at ps (length ps - 1)).price ≤ℤ p.price → Shaped ps → Shaped (ps ++ p ∷ [])
pushed p ps i x y s = record { some = omega (arith, len); rising = up; inside = in_all }
  where
    len : length (ps ++ p ∷ []) ≡ length ps + 1
    len = length-append ps (p ∷ [])

    old : (k : ℕ) → k < length ps → at (ps ++ p ∷ []) k ≡ at ps k
    old k h = get_or_append_left ps (p ∷ []) (point (pos 0) (pos 0)) k h

    new : (k : ℕ) → k ≡ length ps → at (ps ++ p ∷ []) k ≡ p
    new k e = get_or_push ps p (point (pos 0) (pos 0)) k (sym e)

    up : Rising (ps ++ p ∷ [])
    up k h = ⊎_elim
        (λ e. let a = old k (omega arith) in let b = new (k + 1) e in let l : length ps - 1 ≡ k = omega arith in rw (a, b) (rw l at x, rw l at y))
        (λ lt. let a = old k (omega arith) in let b = old (k + 1) lt in rw (a, b) (s.rising k lt))
        (eq-or-lt_of_le {n = k + 1} {m = length ps} (omega (arith, len)))

    in_all : Inside (ps ++ p ∷ [])
    in_all k h = ⊎_elim
        (λ e. let b = new k e in rw b i)
        (λ lt. let a = old k lt in rw a (s.inside k lt))
        (eq-or-lt_of_le {n = k} {m = length ps} (omega (arith, len)))

-- the same where a test has picked
behind_if : (b : Bool) (p : Point) (ps : List Point) → InLimits p → (b ≡ true → (at ps (length ps - 1)).power <ℤ p.power) → (at ps (length ps - 1)).price ≤ℤ p.price → Shaped ps → Shaped (ps ++ cond b (p ∷ []) [])
behind_if true p ps i x y s = pushed p ps i (x refl) y s
behind_if false p ps i x y s = subst Shaped (sym (append-nil ps)) s

before_if : (b : Bool) (p : Point) (ps : List Point) → (b ≡ true → InLimits p) → (b ≡ true → p.power <ℤ (at ps 0).power) → (b ≡ true → p.price ≤ℤ (at ps 0).price) → Shaped ps → Shaped (cond b (p ∷ []) [] ++ ps)
before_if true p ps i x y s = fronted p ps (i refl) (x refl) (y refl) s
before_if false p ps i x y s = s

-- what comes first where a test has picked
first_if : (b : Bool) (p : Point) (ps : List Point) (P : Point → Type 0) → (b ≡ true → P p) → (b ≡ false → P (at ps 0)) → P (at (cond b (p ∷ []) [] ++ ps) 0)
first_if true p ps P f g = f refl
first_if false p ps P f g = g refl

module _ (row : SubmittedCurve) (sound : Sound row) (listed_length : length (listed row) ≡ row.count) where
  listed_shaped : Shaped (listed row)
  listed_shaped = record {
    some = omega (arith, listed_length, sound.count);
    rising = λ k h.
        let lt : k + 1 < row.count = omega (arith, listed_length) in
        let e : k + 1 - 1 ≡ k = omega arith in
        (rw e at ((sound.powers (k + 1) lt).1 (omega arith)), rw e at ((sound.prices (k + 1) lt).1 (omega arith)));
    inside = λ k h.
        let lt : k < row.count = omega (arith, listed_length) in
        let x = (sound.powers k lt).0 in
        let y = (sound.prices k lt).0 in
        (x.0, x.1, y.0, y.1);
  }

  pub first_in : InLimits (at (listed row) 0)
  first_in = listed_shaped.inside 0 listed_shaped.some

  pub last_in : InLimits (at (listed row) (row.count - 1))
  last_in = listed_shaped.inside (row.count - 1) (omega (arith, listed_length, sound.count))

  high_shaped : Shaped (listed row ++ high_end row)
  high_shaped =
      let e : length (listed row) - 1 ≡ row.count - 1 = omega (arith, listed_length) in
      behind_if (lt_z (at (listed row) (row.count - 1)).power row.hsl) (point row.hsl (at (listed row) (row.count - 1)).price) (listed row)
      (sound.limits.1.0, sound.limits.1.1, last_in.2, last_in.3)
      (λ t. rw e (omega (arith, ints)))
      (rw e (≤ℤ_refl (at (listed row) (row.count - 1)).price))
      listed_shaped

  high_first : at (listed row ++ high_end row) 0 ≡ at (listed row) 0
  high_first = get_or_append_left (listed row) (high_end row) (point (pos 0) (pos 0)) 0 listed_shaped.some

  step_shaped : Shaped (step_up row ++ (listed row ++ high_end row))
  step_shaped =
      let f = at (listed row) 0 in
      let i = first_in in
      before_if (lt_z row.lsl (f.power -ℤ pos 1000)) (point (f.power -ℤ pos 1000) (int_min (negsuc 24998) f.price)) (listed row ++ high_end row)
      (λ t. (omega (arith, ints, sound.limits.0), omega (arith, ints), omega (arith, ints, clamps), omega (arith, ints, clamps)))
      (λ t. rw high_first (omega (arith, ints)))
      (λ t. rw high_first (omega (arith, ints, clamps)))
      high_shaped

  pub completed_shaped : Shaped (completed row)
  unfolding completed
  completed_shaped =
      let f = at (listed row) 0 in
      let i = first_in in
      before_if (lt_z row.lsl f.power) (point row.lsl (negsuc 24999)) (step_up row ++ (listed row ++ high_end row))
      (λ t. (sound.limits.0.0, sound.limits.0.1, omega (arith, ints), omega (arith, ints)))
      (λ t. first_if (lt_z row.lsl (f.power -ℤ pos 1000)) _ (listed row ++ high_end row) (λ p. row.lsl <ℤ p.power)
      (λ u. omega (arith, ints)) (λ u. rw high_first (omega (arith, ints))))
      (λ t. first_if (lt_z row.lsl (f.power -ℤ pos 1000)) _ (listed row ++ high_end row) (λ p. negsuc 24999 ≤ℤ p.price)
      (λ u. omega (arith, ints, clamps)) (λ u. rw high_first (omega (arith, ints))))
      step_shaped
