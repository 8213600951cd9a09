-- The nearest magnitude by its three ways, wherever a half goes.
use Rattle.std.proofs.Common.{◌≡◌, ℕ, ◌+◌, ◌-◌, ◌*◌, ◌/◌, ◌%◌, ◌<◌, ◌≤◌, sym, subst, ⊎_elim, mul-le-mul_right, mod-lt, add-mul, lt_of_mul-lt-mul_right, div-add-mod', le-mul_of_pos_right, arith}
use Rattle.std.proofs.lemmas.Bool.{cases_order, lt-ltb, le-ltb}
use Rattle.rounding.specs.Halves.{from_half}
use Rattle.rounding.specs.Nearest.{nearest_magnitude}
use Rattle.rounding.proofs.HalfLaws.{half_low, half_high}

pub below : (n d : ℕ) → 2 * (n % d) < d → nearest_magnitude n d ≡ n / d
unfolding nearest_magnitude
below n d h = rw (lt-ltb _ _ h)

pub above : (n d : ℕ) → d < 2 * (n % d) → nearest_magnitude n d ≡ n / d + 1
unfolding nearest_magnitude
above n d h = let k : d ≤ 2 * (n % d) = omega arith in rw (le-ltb _ _ k, lt-ltb _ _ h)

pub level : (n d : ℕ) → 2 * (n % d) ≡ d → nearest_magnitude n d ≡ from_half (n / d)
unfolding nearest_magnitude
level n d h = let k : d ≤ 2 * (n % d) = omega arith in let l : 2 * (n % d) ≤ d = omega arith in rw (le-ltb _ _ k, le-ltb _ _ l)

-- within half a unit of n = q d + r
at_half : (q r d m : ℕ) → 2 * r ≡ d → q ≤ m → m ≤ q + 1 → (2 * (m * d) ≤ 2 * (q * d + r) + d) × (2 * (q * d + r) ≤ 2 * (m * d) + d)
at_half q r d m h low high = (omega (arith, mul-le-mul_right d high, add-mul q 1 d), omega (arith, mul-le-mul_right d low))

at_less : (q r d : ℕ) → 2 * r < d → (2 * (q * d) ≤ 2 * (q * d + r) + d) × (2 * (q * d + r) ≤ 2 * (q * d) + d)
at_less q r d h = (omega arith, omega arith)

at_more : (q r d : ℕ) → d < 2 * r → r < d → (2 * ((q + 1) * d) ≤ 2 * (q * d + r) + d) × (2 * (q * d + r) ≤ 2 * ((q + 1) * d) + d)
at_more q r d h k = (omega (arith, add-mul q 1 d), omega (arith, add-mul q 1 d))

pub near : (n d : ℕ) → 0 < d → (2 * (nearest_magnitude n d * d) ≤ 2 * n + d) × (2 * n ≤ 2 * (nearest_magnitude n d * d) + d)
near n d pd =
    let q : ℕ = n / d in
    let r : ℕ = n % d in
    let P : ℕ → Type 0 = λ m. (2 * (m * d) ≤ 2 * n + d) × (2 * n ≤ 2 * (m * d) + d) in
    let here : (m : ℕ) → (2 * (m * d) ≤ 2 * (q * d + r) + d) × (2 * (q * d + r) ≤ 2 * (m * d) + d) → P m = λ m p. omega (arith, div-add-mod' n d, p) in
    ⊎_elim
    (λ e. subst P (sym (level n d e)) (here (from_half q) (at_half q r d (from_half q) e (half_low q) (half_high q))))
    (⊎_elim
    (λ h. subst P (sym (below n d h)) (here q (at_less q r d h)))
    (λ h. subst P (sym (above n d h)) (here (q + 1) (at_more q r d h (mod-lt n pd)))))
    (cases_order (2 * r) d)

-- half a unit away only from an exact half
pub half_only : (n d : ℕ) → 0 < d → 2 * ((nearest_magnitude n d * d - n) + (n - nearest_magnitude n d * d)) ≡ d → 2 * (n % d) ≡ d
half_only n d pd e =
    let q : ℕ = n / d in
    let whole = div-add-mod' n d in
    let over = mod-lt n pd in
    ⊎_elim (λ h. h)
    (⊎_elim (λ h. absurd (let f = rw (below n d h) at e in omega arith)) (λ h. absurd (let f = rw (above n d h) at e in omega (arith, add-mul q 1 d))))
    (cases_order (2 * (n % d)) d)

-- no further than the dividend
pub magnitude_le : (n d : ℕ) → 0 < d → nearest_magnitude n d ≤ n
magnitude_le n d pd =
    let m : ℕ = nearest_magnitude n d in
    let lt : m < n + 1 = lt_of_mul-lt-mul_right d (omega (arith, near n d pd, add-mul n 1 d, le-mul_of_pos_right n pd)) in
    omega arith

pub magnitude_zero : (d : ℕ) → 0 < d → nearest_magnitude 0 d ≡ 0
magnitude_zero d pd = omega (arith, magnitude_le 0 d pd)
