-- Worked figures: the curve of (50,000 kW; 2,000) and (150,000 kW; 4,000) with HSL 150,000, by its LSL.
use Rattle.std.specs.Prelude.{◌≡◌, true, ◌∷◌, replicate, ℤ, pos, negsuc}
use Rattle.curves.specs.declared.points.SubmittedCurve.{SubmittedCurve}
use Rattle.curves.specs.Shape.{point}
use Rattle.curves.specs.Completion.{completed}
use Rattle.curves.specs.Acceptance.{accepted}
use Rattle.curves.specs.Reading.{reads, price_at}

-- the submitted row
abbrev pub k_row : ℤ → SubmittedCurve
k_row lsl = record {
  resource = 7;
  hour = 9;
  lsl = lsl;
  hsl = pos 150000;
  count = 2;
  points = point (pos 50000) (pos 2000) ∷ point (pos 150000) (pos 4000) ∷ replicate 8 (point (pos 0) (pos 0));
}

-- the row passes its checks
abbrev pub Sound : ℤ → Type 0
Sound lsl = accepted (k_row lsl) ≡ true

-- the rows are sound, and their curves read
pub record Figures : Type 0 where
  pub rows : Sound (pos 50000) × Sound (pos 20000) × Sound (pos 49500)
  pub between : reads (completed (k_row (pos 50000))) (pos 100000) ≡ pos 3000
  pub above : reads (completed (k_row (pos 50000))) (pos 150001) ≡ pos 4000
  pub half : reads (completed (k_row (pos 50000))) (pos 50025) ≡ pos 2001
  pub low : reads (completed (k_row (pos 20000))) (pos 49500) ≡ negsuc 11499
  pub low_end : reads (completed (k_row (pos 49500))) (pos 49500) ≡ negsuc 24999
  pub capped : price_at (completed (k_row (pos 50000))) (pos 3500) (pos 120000) ≡ pos 3400
