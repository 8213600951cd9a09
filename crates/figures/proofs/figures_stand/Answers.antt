use Rattle.std.proofs.Common.{refl}
use Rattle.numbers.specs.Signs.{signed_by}
use Rattle.rounding.specs.Halves.{from_half}
use Rattle.rounding.specs.Nearest.{nearest_to, nearest_magnitude}
use Rattle.curves.specs.Acceptance.{accepted}
use Rattle.curves.specs.Completion.{completed}
use Rattle.curves.specs.Reading.{line, price_at}
use Rattle.emergency.specs.Energy.{mean_price, scheduled, discharged, charged, amount, basis}
use Rattle.emergency.specs.Fields.{bad_field}
use Rattle.emergency.specs.Payments.{sliced, paid_on}
use Rattle.readers.specs.Emergency.{payment_of}
use Rattle.figures.proofs.figures_stand.Goals as goal

pub returns-clause-worked : goal.returns-clause-worked
unfolding accepted completed line price_at nearest_to nearest_magnitude from_half signed_by mean_price scheduled discharged charged amount basis bad_field sliced paid_on payment_of
returns-clause-worked c = record {
  curves = c.figures_stand.ensures;
  emergency = c.figures_stand-2.ensures;
  losses = c.figures_stand-3.ensures;
  sites = c.figures_stand-4.ensures;
  sharing = c.figures_stand-5.ensures;
  line = refl;
  level = refl;
  basis = refl;
  no_curve = refl;
}
