-- Worked figures: one bus at −30,000 cents per MWh, without adders, at 2,000 kWh; and two buses over two slices, with adders.
use Rattle.std.specs.Prelude.{◌≡◌, ℕ, List, [], ◌∷◌, replicate, ℤ, pos, negsuc}
use Rattle.sharing.specs.Running.{running}
use Rattle.charges.specs.declared.listed.ListedRow.{ListedRow}
use Rattle.sites.specs.declared.site.Adders.{Adders}
use Rattle.sites.specs.declared.site.Bus.{Bus}
use Rattle.sites.specs.declared.site.SiteUnit.{SiteUnit}
use Rattle.sites.specs.Sites.{bus_price, site_amount, readings, written}

-- one slice, no adders, and the bus
abbrev pub undivided : List ℕ
undivided = 900 ∷ []

abbrev pub no_adders : Adders
no_adders = record { first = replicate 15 (pos 0); second = replicate 15 (pos 0) }

abbrev pub deep : Bus
deep = record { energy = pos 2000; prices = replicate 15 (negsuc 29999) }

-- two units with the readings 1 and 3, and the rows of a list
abbrev pub units : List SiteUnit
units = record { resource = 4; party = 1; reading = 1 } ∷ record { resource = 5; party = 2; reading = 3 } ∷ []

abbrev pub row : ℕ → ℕ → ℤ → ListedRow
row resource party amount = record { resource = resource; party = party; amount = amount }

-- two slices, a bus that feeds in and one that draws; what lies past the slices does not count
abbrev pub halves : List ℕ
halves = 600 ∷ 300 ∷ []

abbrev pub adders : Adders
adders = record { first = pos 100 ∷ pos 400 ∷ replicate 13 (pos 7); second = pos 50 ∷ pos 30 ∷ replicate 13 (pos 7) }

abbrev pub feeding : ℤ → Bus
feeding energy = record { energy = energy; prices = pos 2000 ∷ pos 5000 ∷ replicate 13 (pos 7) }

abbrev pub drawing : Bus
drawing = record { energy = negsuc 499; prices = negsuc 999 ∷ negsuc 3999 ∷ replicate 13 (pos 7) }

-- the figures
pub record Figures : Type 0 where
  pub floor : bus_price undivided no_adders deep ≡ negsuc 25099
  pub paid : site_amount undivided no_adders (deep ∷ []) ≡ pos 50200
  pub split : written units (running (pos 50200) (readings units)) (row 1 1 (pos 1) ∷ row 2 2 (pos 2) ∷ row 3 3 (pos 3) ∷ []) ≡ row 4 1 (pos 12550) ∷ row 5 2 (pos 37650) ∷ row 3 3 (pos 3) ∷ []
  pub weighed : bus_price halves adders (feeding (pos 1501)) ≡ pos 3243
  pub below : bus_price halves adders drawing ≡ negsuc 1756
  pub both : site_amount halves adders (feeding (pos 1501) ∷ drawing ∷ []) ≡ negsuc 5745
  pub level : site_amount halves adders (feeding (pos 500) ∷ drawing ∷ []) ≡ pos 0
