-- A row that passes its checks, by the names of the checks.
use Rattle.numbers.specs.Checks.{Each, Passed}
use Rattle.curves.specs.declared.points.SubmittedCurve.{SubmittedCurve}
use Rattle.curves.specs.Submission.{listed, GoodCount, GoodPower, GoodPrice, GoodLimits, checks}

pub record Sound (row : SubmittedCurve) : Type 0 where
  pub count : GoodCount row
  pub powers : Each (GoodPower (listed row)) row.count
  pub prices : Each (GoodPrice (listed row)) row.count
  pub limits : GoodLimits row

pub sound : (row : SubmittedCurve) → Passed (checks row) → Sound row
sound row p = record { count = p.0; powers = p.1.0; prices = p.1.1.0; limits = p.1.1.1.0 }
