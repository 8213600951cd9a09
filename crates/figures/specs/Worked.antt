-- The worked figures of every formula, each by the definitions that the contracts of the calls cite.
use Rattle.std.specs.Prelude.{◌≡◌, [], ◌∷◌, pos, negsuc, Ok, Err}
use Rattle.charges.specs.declared.fault.Cause.TheVariants.{NoCurve}
use Rattle.charges.specs.declared.fault.Layer.TheVariants.{Source}
use Rattle.charges.specs.Faults.{fault_of}
use Rattle.curves.specs.Figures.{k_row}
use Rattle.curves.specs.Figures as curves
use Rattle.emergency.specs.Figures.{two_slices, seconds}
use Rattle.emergency.specs.Figures as emergency
use Rattle.losses.specs.Figures as losses
use Rattle.readers.specs.Emergency.{emergency_line, emergency_basis}
use Rattle.sharing.specs.Figures as sharing
use Rattle.sites.specs.Figures as sites

-- curve K's readings, its completion and the capped price; W, E and the amounts of emergency energy, the charging case among them; the operating losses; the site; the shares of 100, of −1 and of 50,200; and rows as lines of a source
pub record Worked : Type 0 where
  pub curves : curves.Figures
  pub emergency : emergency.Figures
  pub losses : losses.Figures
  pub sites : sites.Figures
  pub sharing : sharing.Figures
  pub line : emergency_line seconds (k_row (pos 50000) ∷ []) 1 (two_slices (pos 3000)) ≡ Ok (7, 2, negsuc 12512)
  pub level : emergency_line seconds (k_row (pos 50000) ∷ []) 1 (two_slices (pos 3429)) ≡ Ok (7, 2, pos 0)
  pub basis : emergency_basis seconds (k_row (pos 50000) ∷ []) (two_slices (pos 3000)) ≡ 29167
  pub no_curve : emergency_line seconds [] 4 (two_slices (pos 3000)) ≡ Err (fault_of NoCurve 4 0 Source)
