-- What a site must keep to, and how it is refused.
use Rattle.std.specs.Prelude.{◌≡◌, ℕ, ◌<◌, ◌≤◌, Bool, false, ◌||◌, List, [], ◌∷◌, length, take, pos, negsuc, nat_lt, sum}
use Rattle.std.specs.List.{list_any}
use Rattle.numbers.specs.Checks.{Check, whole}
use Rattle.numbers.specs.Ranges.{outside, strays}
use Rattle.quarters.specs.Quarters.{slices_of}
use Rattle.sites.specs.declared.refusal.SiteRefusal.{SiteRefusal}
use Rattle.sites.specs.declared.refusal.SiteRefusal.TheVariants.{Counts, ValueOutside, NoReading, ListTooShort}
use Rattle.sites.specs.declared.site.Adders.{Adders}
use Rattle.sites.specs.declared.site.Bus.{Bus}
use Rattle.sites.specs.declared.site.Site.{Site}
use Rattle.sites.specs.declared.site.SiteUnit.{SiteUnit}
use Rattle.sites.specs.Sites.{readings}

-- 1 to 8 buses, and 1 to 8 units
abbrev pub Counted : List Bus → List SiteUnit → Type 0
Counted buses units = (1 ≤ length buses) × (length buses ≤ 8) × (1 ≤ length units) × (length units ≤ 8)

-- those of a site
abbrev pub GoodCounts : Site → Type 0
GoodCounts site = Counted site.buses.now site.units.now

-- how many slices the site's quarter hour has
abbrev pub slice_count : Site → ℕ
slice_count site = length (slices_of site.quarter.now)

-- the energy of a bus is beyond ±10,000 kWh, or its price in one of the first m slices outside −100,000 to 1,000,000 cents per MWh
abbrev pub bus_strays : ℕ → Bus → Bool
bus_strays m bus = outside (negsuc 9999) (pos 10000) bus.energy || strays (negsuc 99999) (pos 1000000) (take m bus.prices)

-- some bus strays so
abbrev pub buses_stray : ℕ → List Bus → Bool
buses_stray m buses = list_any (bus_strays m) buses

-- an adder of one of the first m slices is outside 0 to 1,000,000 cents per MWh
abbrev pub adders_stray : ℕ → Adders → Bool
adders_stray m adders = strays (pos 0) (pos 1000000) (take m adders.first) || strays (pos 0) (pos 1000000) (take m adders.second)

-- a unit's resource is outside 1 to 9,999, or its reading above 500,000
abbrev pub unit_strays : SiteUnit → Bool
unit_strays unit = (nat_lt unit.resource 1 || nat_lt 9999 unit.resource) || nat_lt 500000 unit.reading

-- some unit strays so
abbrev pub units_stray : List SiteUnit → Bool
units_stray units = list_any unit_strays units

-- a value or a resource is outside its limits, over m slices
abbrev pub values_stray : ℕ → Adders → List Bus → List SiteUnit → Bool
values_stray m adders buses units = (buses_stray m buses || adders_stray m adders) || units_stray units

-- one of the site is
abbrev pub site_strays : Site → Bool
site_strays site = values_stray (slice_count site) site.adders.now site.buses.now site.units.now

-- the checks of a site of these parts, over m slices, that is settled into a list of so many rows, in order: the counts, the values and
-- resources, the sum of the readings, the room
abbrev pub parts_checks : ℕ → Adders → List Bus → List SiteUnit → ℕ → List Check
parts_checks m adders buses units room =
    whole 51 (Counted buses units)
    ∷ whole 52 (values_stray m adders buses units ≡ false)
    ∷ whole 53 (0 < sum (readings units))
    ∷ whole 54 (length units ≤ room)
    ∷ []

-- those of a site
abbrev pub checks : Site → ℕ → List Check
checks site room = parts_checks (slice_count site) site.adders.now site.buses.now site.units.now room

-- a refusal's number
abbrev pub number_of : SiteRefusal → ℕ
number_of Counts = 51
number_of ValueOutside = 52
number_of NoReading = 53
number_of ListTooShort = 54

-- its place: none is told
abbrev pub place_of : SiteRefusal → ℕ
place_of Counts = 0
place_of ValueOutside = 0
place_of NoReading = 0
place_of ListTooShort = 0
