use Rattle.std.proofs.Common.{refl}
use Rattle.numbers.specs.Signs.{signed_by}
use Rattle.sharing.specs.Running.{running, up_to}
use Rattle.sharing.specs.Leftover.{leftover, part}
use Rattle.sharing.proofs.figures.figures_stand.Goals as goal

pub returns : goal.returns
unfolding running leftover up_to part signed_by
returns c = record {
  thirds_running = refl;
  thirds_leftover = refl;
  one_running = refl;
  one_leftover = refl;
  quarters_running = refl;
  quarters_leftover = refl;
}
