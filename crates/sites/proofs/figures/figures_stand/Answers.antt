use Rattle.std.proofs.Common.{refl}
use Rattle.numbers.specs.Signs.{signed_by}
use Rattle.rounding.specs.Halves.{from_half}
use Rattle.rounding.specs.Nearest.{nearest_to, nearest_magnitude}
use Rattle.sharing.specs.Running.{up_to, running}
use Rattle.sites.specs.Sites.{bus_price, site_amount}
use Rattle.sites.proofs.figures.figures_stand.Goals as goal

pub returns : goal.returns
unfolding nearest_to nearest_magnitude from_half signed_by up_to running bus_price site_amount
returns c = record { floor = refl; paid = refl; split = refl; weighed = refl; below = refl; both = refl; level = refl }
