use Rattle.std.proofs.Common.{refl}
use Rattle.numbers.specs.Signs.{signed_by}
use Rattle.rounding.specs.Halves.{from_half}
use Rattle.rounding.specs.Nearest.{nearest_to, nearest_magnitude}
use Rattle.losses.specs.Fields.{bad_field}
use Rattle.losses.specs.Losses.{operating_loss, loss_in}
use Rattle.losses.proofs.figures.figures_stand.Goals as goal

pub returns : goal.returns
unfolding signed_by from_half nearest_to nearest_magnitude bad_field operating_loss loss_in
returns c = record {
  cost = refl;
  line = refl;
  basis = refl;
  lost = refl;
  at_cap = refl;
  below = refl;
  below_steps = refl;
  no_offer = refl;
  no_base = refl;
  cheap = refl;
  proxy = refl;
  stored = refl;
  hot_first = refl;
  dear = refl;
  no_category = refl;
}
