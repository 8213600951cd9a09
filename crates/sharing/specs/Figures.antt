-- Worked figures: 100 over three equal loads, −1 over the loads 0 and 5, 50,200 over 1 and 3.
use Rattle.std.specs.Prelude.{◌≡◌, [], ◌∷◌, pos, negsuc}
use Rattle.sharing.specs.Running.{running}
use Rattle.sharing.specs.Leftover.{leftover}

-- by running and by leftover
pub record Figures : Type 0 where
  pub thirds_running : running (pos 100) (7 ∷ 7 ∷ 7 ∷ []) ≡ pos 33 ∷ pos 33 ∷ pos 34 ∷ []
  pub thirds_leftover : leftover (pos 100) (7 ∷ 7 ∷ 7 ∷ []) ≡ pos 34 ∷ pos 33 ∷ pos 33 ∷ []
  pub one_running : running (negsuc 0) (0 ∷ 5 ∷ []) ≡ pos 0 ∷ negsuc 0 ∷ []
  pub one_leftover : leftover (negsuc 0) (0 ∷ 5 ∷ []) ≡ pos 0 ∷ negsuc 0 ∷ []
  pub quarters_running : running (pos 50200) (1 ∷ 3 ∷ []) ≡ pos 12550 ∷ pos 37650 ∷ []
  pub quarters_leftover : leftover (pos 50200) (1 ∷ 3 ∷ []) ≡ pos 12550 ∷ pos 37650 ∷ []
