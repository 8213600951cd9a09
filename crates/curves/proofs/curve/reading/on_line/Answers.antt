use Rattle.std.proofs.Common.{◌≡◌, ◌≤◌, ℤ, ◌+ℤ◌, nat_abs, ◌≤ℤ◌, ◌∙◌, arith, w32, w64, to_z, of_z}
use borrow.Author.Differences.{ints}
use Rattle.curves.specs.Reading.{apart, line_times, line}
use Rattle.curves.proofs.Lines.{weight_small, line_low, line_high}
use Rattle.curves.proofs.curve.reading.on_line.Goals as goal
use Rattle.curves.proofs.curve.reading.on_line.Goals.{After-weighed-2, at-returns}

module _ (c : goal.After-weighed-2) where
  first_small : nat_abs c.weighed.result ≤ 4000000000000
  first_small = weight_small _ (to_z w32 (of_z w32 c.args.a.price)) _ c.weighed.ensures (omega (arith, ints)) (omega (arith, ints))

  second_small : nat_abs c.weighed-2.result ≤ 4000000000000
  second_small = weight_small _ (to_z w32 (of_z w32 c.args.b.price)) _ c.weighed-2.ensures (omega (arith, ints)) (omega (arith, ints))

  sum : c.weighed.result +ℤ c.weighed-2.result ≡ line_times c.args.a c.args.b c.args.power
  sum =
      let p : to_z w32 (of_z w32 c.args.a.price) ≡ c.args.a.price = omega (arith, ints) in
      let q : to_z w32 (of_z w32 c.args.b.price) ≡ c.args.b.price = omega (arith, ints) in
      let u : c.abs_diff.result ≡ apart c.args.b.power c.args.power = omega (arith, ints) in
      let v : c.abs_diff-2.result ≡ apart c.args.power c.args.a.power = omega (arith, ints) in
      rw (c.weighed.ensures, c.weighed-2.ensures, p, q, u, v)

-- two small sums, clear of their bits
clear : (p q : ℤ) → nat_abs p ≤ 4000000000000 → nat_abs q ≤ 4000000000000 → to_z w64 (of_z w64 (to_z w64 (of_z w64 p) +ℤ to_z w64 (of_z w64 q))) ≡ p +ℤ q
clear p q h k = omega (arith, ints)

pub overflow_add-sum : goal.overflow_add-sum
overflow_add-sum c = let h = first_small c in let k = second_small c in omega (arith, ints)

result : (c : goal.After-nearest) → c.nearest.result ≡ line c.args.a c.args.b c.args.power
unfolding line
result c =
    let w = (at-returns c).After-weighed-2 in
    let d : c.from.result ≡ apart c.args.b.power c.args.a.power = omega (arith, ints) in
    let n = clear c.weighed.result c.weighed-2.result (first_small w) (second_small w) ∙ sum w in
    c.nearest.ensures.value ∙ rw (n, d)

bounds : (c : goal.After-nearest) → (c.args.a.price ≤ℤ c.nearest.result) × (c.nearest.result ≤ℤ c.args.b.price)
bounds c = rw (result c) (
  line_low c.args.a c.args.b c.args.power c.requires.between.0 c.requires.between.1 c.requires.up.1,
  line_high c.args.a c.args.b c.args.power c.requires.between.0 c.requires.between.1 c.requires.up.1,
)

pub overflow_cast-result : goal.overflow_cast-result
overflow_cast-result c = let h = bounds c in omega (arith, ints)

pub returns : goal.returns
returns c =
    let h = bounds c in
    let e : to_z w32 (of_z w32 (to_z w64 (of_z w64 c.nearest.result))) ≡ c.nearest.result = omega (arith, ints) in
    e ∙ result c
