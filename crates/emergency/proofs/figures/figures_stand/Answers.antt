use Rattle.std.proofs.Common.{refl}
use Rattle.numbers.specs.Signs.{signed_by}
use Rattle.rounding.specs.Halves.{from_half}
use Rattle.rounding.specs.Nearest.{nearest_to, nearest_magnitude}
use Rattle.curves.specs.Completion.{completed}
use Rattle.curves.specs.Reading.{line, price_at}
use Rattle.emergency.specs.Energy.{mean_price, scheduled, discharged, charged, amount, basis}
use Rattle.emergency.specs.Fields.{bad_field}
use Rattle.emergency.specs.Payments.{sliced, paid_on}
use Rattle.emergency.proofs.figures.figures_stand.Goals as goal

pub returns : goal.returns
unfolding completed line price_at nearest_to nearest_magnitude from_half signed_by mean_price scheduled discharged charged amount basis bad_field sliced paid_on
returns c = record {
  mean = refl;
  energy = refl;
  low = refl;
  level = refl;
  row = refl;
  dear = refl;
  drawn = refl;
  drawn_amount = refl;
}
