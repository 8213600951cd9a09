-- The line between two points.
use Rattle.std.proofs.Common.{◌≡◌, ℕ, ◌+◌, ◌<◌, ◌≤◌, ℤ, pos, ◌+ℤ◌, ◌-ℤ◌, ◌*ℤ◌, nat_abs, ◌≤ℤ◌, ◌<ℤ◌, sym, ap, ◌∙◌, mul-le-mul, mul-add, arith}
use borrow.Author.Differences.{ints, up, down}
use Rattle.rounding.specs.Nearest.{nearest_to, Nearest}
use Rattle.numbers.proofs.Integers.{scaled, scaled_le, abs_scaled}
use Rattle.rounding.proofs.Laws.{nearest_low, nearest_high, nearest_exact, nearest_is, nearest_only}
use Rattle.curves.specs.declared.points.Point.{Point}
use Rattle.curves.specs.Reading.{apart, line_times, line}

-- weights add up
scaled_add : (p : ℤ) (u v : ℕ) → p *ℤ pos (u + v) ≡ p *ℤ pos u +ℤ p *ℤ pos v
scaled_add p u v = omega (arith, ints, scaled p (u + v), scaled p u, scaled p v, mul-add (up p) u v, mul-add (down p) u v)

module _ (a b : Point) (x : ℤ) (low : a.power ≤ℤ x) (high : x <ℤ b.power) (dear : a.price ≤ℤ b.price) where
  parts : nat_abs (b.power -ℤ x) + nat_abs (x -ℤ a.power) ≡ nat_abs (b.power -ℤ a.power)
  parts = omega (arith, ints)

  above : 0 < nat_abs (b.power -ℤ a.power)
  above = omega (arith, ints)

  pub line_low : a.price ≤ℤ line a b x
  unfolding line
  line_low =
      let u : ℕ = nat_abs (b.power -ℤ x) in
      let v : ℕ = nat_abs (x -ℤ a.power) in
      nearest_low _ _ a.price above (rw (← parts) (omega (arith, ints, scaled_add a.price u v, scaled_le a.price b.price v dear)))

  pub line_high : line a b x ≤ℤ b.price
  unfolding line
  line_high =
      let u : ℕ = nat_abs (b.power -ℤ x) in
      let v : ℕ = nat_abs (x -ℤ a.power) in
      nearest_high _ _ b.price above (rw (← parts) (omega (arith, ints, scaled_add b.price u v, scaled_le a.price b.price u dear)))

-- at its left end the line has that point's price
pub line_start : (a b : Point) → a.power <ℤ b.power → line a b a.power ≡ a.price
unfolding line
line_start a b h =
    let d : ℕ = nat_abs (b.power -ℤ a.power) in
    let pd : 0 < d = omega (arith, ints) in
    let z : nat_abs (a.power -ℤ a.power) ≡ 0 = omega (arith, ints) in
    let e : a.price *ℤ pos d +ℤ b.price *ℤ pos (nat_abs (a.power -ℤ a.power)) ≡ a.price *ℤ pos d = rw z (omega (arith, ints, scaled b.price 0)) in
    ap (λ n. nearest_to n d) e ∙ nearest_exact a.price d pd

-- the line by definition and in words
pub line_nearest : (a b : Point) (x : ℤ) → a.power <ℤ b.power → Nearest (line_times a b x) (apart b.power a.power) (line a b x)
unfolding line
line_nearest a b x h = nearest_is (line_times a b x) (apart b.power a.power) (omega (arith, ints))

pub line_only : (a b : Point) (x r s : ℤ) → a.power <ℤ b.power → Nearest (line_times a b x) (apart b.power a.power) r → Nearest (line_times a b x) (apart b.power a.power) s → r ≡ s
line_only a b x r s h p q =
    let some : 0 < apart b.power a.power = omega (arith, ints) in
    nearest_only (line_times a b x) (apart b.power a.power) r some p ∙ sym (nearest_only (line_times a b x) (apart b.power a.power) s some q)

-- a price as often as it counts stays small
pub weight_small : (r p : ℤ) (u : ℕ) → r ≡ p *ℤ pos u → nat_abs p ≤ 1000000 → u ≤ 4000000 → nat_abs r ≤ 4000000000000
weight_small r p u e h k = rw e (omega (arith, abs_scaled p u, mul-le-mul h k))
