-- What a small generation site is paid in a quarter hour, and the rows that tell it. Energies are kWh, prices and adders cents per MWh, durations seconds, amounts cents.
use Rattle.std.specs.Prelude.{◌≡◌, ℕ, cond, List, ◌++◌, map, length, take, drop, ℤ, pos, negsuc, neg_ℤ, ◌+ℤ◌, ◌*ℤ◌, Ok, int_lt, slice_index, slice_index_or}
use Rattle.std.specs.Int.{int_max}
use Rattle.std.specs.List.{All, range_with_len, zip}
use Rattle.numbers.specs.Sums.{signed_sum, signed_total}
use Rattle.rounding.specs.Nearest.{nearest_to}
use Rattle.quarters.specs.Quarters.{slices_of}
use Rattle.charges.specs.declared.listed.ListedRow.{ListedRow}
use Rattle.charges.specs.Listed.{listed_line}
use Rattle.sites.specs.declared.site.Adders.{Adders}
use Rattle.sites.specs.declared.site.Bus.{Bus}
use Rattle.sites.specs.declared.site.Site.{Site}
use Rattle.sites.specs.declared.site.SiteUnit.{SiteUnit}

-- the price of a bus in slice k, from 0, with both adders
abbrev pub full_price : Adders → Bus → ℕ → ℤ
full_price adders bus k = (slice_index_or bus.prices k (pos 0) +ℤ slice_index_or adders.first k (pos 0)) +ℤ slice_index_or adders.second k (pos 0)

-- Σ(s × (price + adders)) over the slices
abbrev pub weighed_price : List ℕ → Adders → Bus → ℤ
weighed_price seconds adders bus = signed_total (map (λ k. full_price adders bus k *ℤ pos (slice_index seconds k)) (range_with_len 0 (length seconds)))

-- the nearest of that / 900
abbrev pub average_price : List ℕ → Adders → Bus → ℤ
average_price seconds adders bus = nearest_to (weighed_price seconds adders bus) 900

-- the price of a bus: max(−25,100, that)
unfoldable pub bus_price : List ℕ → Adders → Bus → ℤ
bus_price seconds adders bus = int_max (negsuc 25099) (average_price seconds adders bus)

-- the sum of the energies
abbrev pub energy_of : List Bus → ℤ
energy_of buses = signed_sum (λ bus. bus.energy) buses

-- Σ(bus price × energy), in thousandths of a cent
abbrev pub thousandths : List ℕ → Adders → List Bus → ℤ
thousandths seconds adders buses = signed_sum (λ bus. bus_price seconds adders bus *ℤ bus.energy) buses

-- the nearest of that / 1000
abbrev pub worth : List ℕ → Adders → List Bus → ℤ
worth seconds adders buses = nearest_to (thousandths seconds adders buses) 1000

-- −worth if the energies add up to more than 0, else 0
unfoldable pub site_amount : List ℕ → Adders → List Bus → ℤ
site_amount seconds adders buses = cond (int_lt (pos 0) (energy_of buses)) (neg_ℤ (worth seconds adders buses)) (pos 0)

-- the amount of a site: negative where the parties receive it
abbrev pub amount_of : Site → ℤ
amount_of site = site_amount (slices_of site.quarter.now) site.adders.now site.buses.now

-- the telemetry readings
abbrev pub readings : List SiteUnit → List ℕ
readings units = map (λ unit. unit.reading) units

-- the row of a unit: its resource and party, and its share
abbrev pub row_of : SiteUnit → ℤ → ListedRow
row_of unit share = record { resource = unit.resource; party = unit.party; amount = share }

-- a list once it tells the shares: a row for each unit, and every other row as before
abbrev pub written : List SiteUnit → List ℤ → List ListedRow → List ListedRow
written units shares before = map (λ p. row_of p.0 p.1) (zip units shares) ++ drop (length units) before

-- a listed source takes each of the first n rows as it stands
abbrev pub Accepted : ℕ → List ListedRow → Type 0
Accepted n rows = All (λ row. (line : ℕ) → listed_line line row ≡ Ok (row.resource, row.party, row.amount)) (take n rows)
