-- Whether a submitted row passes its checks, as one test.
use Rattle.std.specs.Prelude.{ℕ, zero, suc, ◌-◌, Bool, true, ◌&&◌, ◌||◌, List, ℤ, pos, negsuc, int_le, int_lt, nat_le}
use Rattle.curves.specs.declared.points.Point.{Point}
use Rattle.curves.specs.declared.points.SubmittedCurve.{SubmittedCurve}
use Rattle.curves.specs.Shape.{at}
use Rattle.curves.specs.Submission.{listed}

-- a power within its range
abbrev pub power_in : ℤ → Bool
power_in x = int_le (negsuc 1999999) x && int_le x (pos 2000000)

-- a price within its range
abbrev pub price_in : ℤ → Bool
price_in y = int_le (negsuc 24999) y && int_le y (pos 1000000)

-- the k-th power: inside, and above the one before
abbrev pub power_fits : List Point → ℕ → Bool
power_fits ps k = power_in (at ps k).power && (nat_le k 0 || int_lt (at ps (k - 1)).power (at ps k).power)

-- the k-th price: inside, and not below the one before
abbrev pub price_fits : List Point → ℕ → Bool
price_fits ps k = price_in (at ps k).price && (nat_le k 0 || int_le (at ps (k - 1)).price (at ps k).price)

-- of each of the first n
abbrev pub every : (ℕ → Bool) → ℕ → Bool
every p zero = true
every p (suc n) = p n && every p n

-- the count, each power, each price, the limits
unfoldable pub accepted : SubmittedCurve → Bool
accepted row =
    (nat_le 1 row.count && nat_le row.count 10)
    && (every (power_fits (listed row)) row.count
    && (every (price_fits (listed row)) row.count
    && ((power_in row.lsl && power_in row.hsl) && int_le row.lsl row.hsl)))
