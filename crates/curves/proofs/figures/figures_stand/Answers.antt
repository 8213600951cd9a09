use Rattle.std.proofs.Common.{refl}
use Rattle.numbers.specs.Signs.{signed_by}
use Rattle.rounding.specs.Halves.{from_half}
use Rattle.rounding.specs.Nearest.{nearest_to, nearest_magnitude}
use Rattle.curves.specs.Completion.{completed}
use Rattle.curves.specs.Acceptance.{accepted}
use Rattle.curves.specs.Reading.{line, price_at}
use Rattle.curves.proofs.figures.figures_stand.Goals as goal

pub returns : goal.returns
unfolding accepted completed line price_at nearest_to nearest_magnitude from_half signed_by
returns c = record { rows = (refl, refl, refl); between = refl; above = refl; half = refl; low = refl; low_end = refl; capped = refl }
