use Rattle.std.proofs.Common.{◌≡◌, length, ◌≤ℤ◌, refl, arith}
use Rattle.curves.specs.declared.points.CurveRefusal.TheVariants.{Price}
use Rattle.curves.specs.Submission.{listed, PriceIn}
use Rattle.curves.proofs.Misfits.{checked}
use Rattle.curves.proofs.curve.checks.prices.Goals as goal

pub returns : goal.returns
returns c =
    let row = c.args.row.now in
    let found = rw c.listed.ensures.value at c.in_order.ensures in
    let count : length c.listed.result.now ≡ row.count = omega arith in
    let size = rw c.listed.ensures.value at count in
    rw size at (checked (λ p. PriceIn p.price) (λ b p. b.price ≤ℤ p.price) (listed row) 23 Price (λ _. (refl, refl)) c.in_order.result c.map_err.result found c.map_err.ensures.cases)
