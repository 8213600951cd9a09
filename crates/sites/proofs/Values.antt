-- What the checks leave: energies within 10,000, and prices and adders within 1,000,000.
use Rattle.std.proofs.Common.{◌≡◌, ℕ, ◌<◌, ◌≤◌, false, ◌||◌, get_or, take, pos, negsuc, nat_abs, arith}
use borrow.Author.Differences.{ints}
use Rattle.std.proofs.lemmas.Bool.{or_parts}
use Rattle.numbers.specs.Ranges.{outside, strays}
use Rattle.numbers.proofs.Ranges.{inside, all_small}
use Rattle.sites.specs.declared.site.Bus.{Bus}
use Rattle.sites.specs.declared.site.Site.{Site}
use Rattle.sites.specs.Refusals.{bus_strays, buses_stray, adders_stray, units_stray, site_strays, slice_count}

-- each of the three parts of the check
pub parts_inside : (site : Site) → site_strays site ≡ false → (buses_stray (slice_count site) site.buses.now ≡ false) × (adders_stray (slice_count site) site.adders.now ≡ false) × (units_stray site.units.now ≡ false)
parts_inside site good =
    let p = or_parts (buses_stray (slice_count site) site.buses.now || adders_stray (slice_count site) site.adders.now) (units_stray site.units.now) good in
    let q = or_parts (buses_stray (slice_count site) site.buses.now) (adders_stray (slice_count site) site.adders.now) p.0 in
    (q.0, q.1, p.1)

pub energy_small : (m : ℕ) (bus : Bus) → bus_strays m bus ≡ false → nat_abs bus.energy ≤ 10000
energy_small m bus good =
    let p = or_parts (outside (negsuc 9999) (pos 10000) bus.energy) (strays (negsuc 99999) (pos 1000000) (take m bus.prices)) good in
    omega (arith, ints, inside (negsuc 9999) (pos 10000) bus.energy p.0)

-- a price and both adders in a slice
pub price_small : (site : Site) (bus : Bus) (k : ℕ) → site_strays site ≡ false → bus_strays (slice_count site) bus ≡ false → k < slice_count site →
    (nat_abs (get_or bus.prices k (pos 0)) ≤ 1000000) × (nat_abs (get_or site.adders.now.first k (pos 0)) ≤ 1000000) × (nat_abs (get_or site.adders.now.second k (pos 0)) ≤ 1000000)
price_small site bus k good priced h =
    let m = slice_count site in
    let adders = site.adders.now in
    let p = or_parts (outside (negsuc 9999) (pos 10000) bus.energy) (strays (negsuc 99999) (pos 1000000) (take m bus.prices)) priced in
    let a = or_parts (strays (pos 0) (pos 1000000) (take m adders.first)) (strays (pos 0) (pos 1000000) (take m adders.second)) (parts_inside site good).1 in (
      all_small (negsuc 99999) (pos 1000000) 1000000 m bus.prices (omega (arith, ints)) (omega (arith, ints)) p.1 k h,
      all_small (pos 0) (pos 1000000) 1000000 m adders.first (omega (arith, ints)) (omega (arith, ints)) a.0 k h,
      all_small (pos 0) (pos 1000000) 1000000 m adders.second (omega (arith, ints)) (omega (arith, ints)) a.1 k h,
    )
