-- A reading is within the prices of the points, whatever their order.
use Rattle.std.proofs.Common.{◌≡◌, ℕ, ◌+◌, ◌-◌, ◌<◌, ◌≤◌, List, [], ◌∷◌, ℤ, pos, ◌+ℤ◌, ◌-ℤ◌, ◌*ℤ◌, nat_abs, ◌≤ℤ◌, ◌<ℤ◌, mul-le-mul_right, arith}
use borrow.Author.Differences.{ints}
use lib.Signed.{lt_z, le_z}
use Rattle.std.specs.List.{AllByRecursion}
use Rattle.std.proofs.ByRecursion.{All-append, All-from_get_or}
use Rattle.std.proofs.lemmas.List.{length-take}
use Rattle.std.proofs.lemmas.Int.{clamps}
use Rattle.std.proofs.lemmas.Bool.{cond_both}
use Rattle.numbers.proofs.Integers.{abs_scaled}
use Rattle.rounding.proofs.Laws.{nearest_within}
use Rattle.curves.specs.declared.points.Point.{Point}
use Rattle.curves.specs.declared.points.SubmittedCurve.{SubmittedCurve}
use Rattle.curves.specs.Shape.{at, point}
use Rattle.curves.specs.Reading.{line, beyond, reads, price_at}
use Rattle.curves.specs.Submission.{listed}
use Rattle.curves.specs.Completion.{low_end, step_up, completed}
use Rattle.curves.proofs.Soundness.{Sound}

abbrev pub Cheap : Point → Type 0
Cheap p = nat_abs p.price ≤ 1000000

line_cheap : (a b : Point) (x : ℤ) → Cheap a → Cheap b → a.power ≤ℤ x → x <ℤ b.power → nat_abs (line a b x) ≤ 1000000
unfolding line
line_cheap a b x ca cb low high =
    let u : ℕ = nat_abs (b.power -ℤ x) in
    let v : ℕ = nat_abs (x -ℤ a.power) in
    let d : ℕ = nat_abs (b.power -ℤ a.power) in
    let pd : 0 < d = omega (arith, ints) in
    let parts : u + v ≡ d = omega (arith, ints) in
    nearest_within (a.price *ℤ pos u +ℤ b.price *ℤ pos v) d 1000000 pd
    (omega (arith, ints, abs_scaled a.price u, abs_scaled b.price v, mul-le-mul_right u ca, mul-le-mul_right v cb))

beyond_cheap : (a : Point) (ps : List Point) (x : ℤ) → Cheap a → AllByRecursion Cheap ps → a.power ≤ℤ x → nat_abs (beyond a ps x) ≤ 1000000
beyond_cheap a [] x ca cs low = ca
beyond_cheap a (b ∷ ps) x ca cs low =
    cond_both (lt_z x b.power) (line a b x) (beyond b ps x) (λ z. nat_abs z ≤ 1000000)
    (λ e. line_cheap a b x ca cs.0 low (grind (arith, ints)))
    (λ e. beyond_cheap b ps x cs.0 cs.1 (grind (arith, ints)))

pub reads_cheap : (ps : List Point) (x : ℤ) → AllByRecursion Cheap ps → nat_abs (reads ps x) ≤ 1000000
reads_cheap [] x cs = omega arith
reads_cheap (a ∷ ps) x cs =
    cond_both (le_z x a.power) a.price (beyond a ps x) (λ z. nat_abs z ≤ 1000000)
    (λ e. cs.0)
    (λ e. beyond_cheap a ps x cs.0 cs.1 (grind (arith, ints)))

-- and so is a price under a cap
pub price_cheap : (ps : List Point) (cap x : ℤ) → AllByRecursion Cheap ps → pos 0 ≤ℤ cap → cap ≤ℤ pos 1000000 → nat_abs (price_at ps cap x) ≤ 1000000
unfolding price_at
price_cheap ps cap x cheap free capped = let r = reads_cheap ps x cheap in omega (arith, ints, clamps)

module _ (row : SubmittedCurve) (sound : Sound row) where
  some : 0 < row.count
  some = omega (arith, sound.count)

  pub completed_cheap : AllByRecursion Cheap (completed row)
  unfolding completed
  completed_cheap =
      let first = (sound.prices 0 some).0 in
      let last = (sound.prices (row.count - 1) (omega (arith, some))).0 in
      All-append Cheap (low_end row) _
      (cond_both (lt_z row.lsl (at (listed row) 0).power) _ _ (AllByRecursion Cheap) (λ _. (omega arith, tt)) (λ _. tt))
      (All-append Cheap (step_up row) _
      (cond_both (lt_z row.lsl ((at (listed row) 0).power -ℤ pos 1000)) _ _ (AllByRecursion Cheap) (λ _. (omega (arith, ints, clamps), tt)) (λ _. tt))
      (All-append Cheap (listed row) _
      (All-from_get_or Cheap (listed row) (point (pos 0) (pos 0)) (λ k h. let p = (sound.prices k (omega (arith, length-take row.count row.points))).0 in omega (arith, ints)))
      (cond_both (lt_z (at (listed row) (row.count - 1)).power row.hsl) _ _ (AllByRecursion Cheap) (λ _. (omega (arith, ints), tt)) (λ _. tt))))
