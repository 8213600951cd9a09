use Rattle.std.proofs.Common.{◌≡◌, ◌≤◌, ℤ, ◌+ℤ◌, ◌-ℤ◌, ◌*ℤ◌, nat_abs, ◌∙◌, mul-le-mul, arith, w64, SFits, to_z, of_z}
use borrow.Author.Differences.{ints}
use Rattle.numbers.proofs.Integers.{abs_times}
use Rattle.emergency.proofs.payment.due.Goals as goal

-- a product, clear of its bits
times : (z p q : ℤ) → z ≡ to_z w64 (of_z w64 p) *ℤ to_z w64 (of_z w64 q) → nat_abs p ≤ 1000000 → nat_abs q ≤ 1000000 → (z ≡ p *ℤ q) × (nat_abs z ≤ 1000000000000)
times z p q is left right =
    let clear_p : to_z w64 (of_z w64 p) ≡ p = omega (arith, ints) in
    let clear_q : to_z w64 (of_z w64 q) ≡ q = omega (arith, ints) in
    let clear : z ≡ p *ℤ q = is ∙ rw (clear_p, clear_q) in
    (clear, rw clear (omega (arith, abs_times p q, mul-le-mul left right)))

-- two differences, clear of their bits
less : (a b c : ℤ) → nat_abs a ≤ 1000000000000 → nat_abs b ≤ 1000000000000 → nat_abs c ≤ 1000000000000 →
    to_z w64 (of_z w64 (to_z w64 (of_z w64 (to_z w64 (of_z w64 a) -ℤ to_z w64 (of_z w64 b))) -ℤ to_z w64 (of_z w64 c))) ≡ (a -ℤ b) -ℤ c
less a b c first second third = omega (arith, ints)

-- the differences of three products: they fit, clear of their bits
module _ (a b c s w e v d : ℤ) (point : nat_abs s ≤ 1000000) (above : (nat_abs w ≤ 1000000) × (nat_abs e ≤ 500000)) (below : (nat_abs v ≤ 1000000) × (nat_abs d ≤ 500000))
    (first : a ≡ to_z w64 (of_z w64 s) *ℤ to_z w64 (of_z w64 (to_z w64 (of_z w64 e) +ℤ to_z w64 (of_z w64 d))))
    (second : b ≡ to_z w64 (of_z w64 w) *ℤ to_z w64 (of_z w64 e)) (third : c ≡ to_z w64 (of_z w64 v) *ℤ to_z w64 (of_z w64 d)) where
  sum : to_z w64 (of_z w64 e) +ℤ to_z w64 (of_z w64 d) ≡ e +ℤ d
  sum = omega (arith, ints)

  sold : (a ≡ s *ℤ (e +ℤ d)) × (nat_abs a ≤ 1000000000000)
  sold = times a s (e +ℤ d) (first ∙ rw sum) point (omega (arith, ints))

  out : (b ≡ w *ℤ e) × (nat_abs b ≤ 1000000000000)
  out = times b w e second above.0 (omega arith)

  back : (c ≡ v *ℤ d) × (nat_abs c ≤ 1000000000000)
  back = times c v d third below.0 (omega arith)

  fits : SFits w64 (to_z w64 (of_z w64 (to_z w64 (of_z w64 a) -ℤ to_z w64 (of_z w64 b))) -ℤ to_z w64 (of_z w64 c))
  fits = omega (arith, ints, sold, out, back)

  clear : to_z w64 (of_z w64 (to_z w64 (of_z w64 (to_z w64 (of_z w64 a) -ℤ to_z w64 (of_z w64 b))) -ℤ to_z w64 (of_z w64 c))) ≡ (s *ℤ (e +ℤ d) -ℤ w *ℤ e) -ℤ v *ℤ d
  clear = less a b c sold.1 out.1 back.1 ∙ rw (sold.0, out.0, back.0)

pub overflow_sub-result : goal.overflow_sub-result
overflow_sub-result c =
    let r = c.requires in
    let l = c.args.discharging.now in
    let m = c.args.charging.now in
    let one = times c.product.result c.args.spp (to_z w64 (of_z w64 l.energy) +ℤ to_z w64 (of_z w64 m.energy)) c.product.ensures r.point (omega (arith, ints, r.above, r.below)) in
    let two = times c.product-2.result l.price l.energy c.product-2.ensures r.above.0 (omega (arith, r.above)) in
    omega (arith, ints, one.1, two.1)

pub overflow_sub-result-2 : goal.overflow_sub-result-2
overflow_sub-result-2 c =
    fits c.product.result c.product-2.result c.product-3.result c.args.spp c.args.discharging.now.price c.args.discharging.now.energy c.args.charging.now.price c.args.charging.now.energy
    c.requires.point c.requires.above c.requires.below c.product.ensures c.product-2.ensures c.product-3.ensures

pub returns : goal.returns
returns c =
    clear c.product.result c.product-2.result c.product-3.result c.args.spp c.args.discharging.now.price c.args.discharging.now.energy c.args.charging.now.price c.args.charging.now.energy
    c.requires.point c.requires.above c.requires.below c.product.ensures c.product-2.ensures c.product-3.ensures
