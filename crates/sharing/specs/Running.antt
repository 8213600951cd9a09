-- The running rule: on the total's magnitude, the share is what the loads up to and with this one come to, taken down, less the same without this one; the sign is put back.
use Rattle.std.specs.Prelude.{ℕ, ◌+◌, ◌-◌, ◌*◌, ◌/◌, List, map, length, take, ℤ, sum, unsigned_abs}
use Rattle.std.specs.List.{range_with_len}
use Rattle.numbers.specs.Signs.{signed_by}

-- what the first k loads come to, taken down
unfoldable pub up_to : ℕ → List ℕ → ℕ → ℕ
up_to magnitude loads k = magnitude * sum (take k loads) / sum loads

-- the shares, by place
unfoldable pub running : ℤ → List ℕ → List ℤ
running total loads = map (λ k. signed_by total (up_to (unsigned_abs total) loads (k + 1) - up_to (unsigned_abs total) loads k)) (range_with_len 0 (length loads))
