-- The leftover rule: on the total's magnitude, each exact share is taken down, and the missing cents go one each to the first parties whose exact share was not whole; the sign is put back.
use Rattle.std.specs.Prelude.{ℕ, ◌+◌, ◌-◌, ◌*◌, ◌/◌, ◌%◌, Bool, cond, ◌&&◌, List, map, length, take, ℤ, sum_by, sum, count_by, nat_lt, slice_index, unsigned_abs}
use Rattle.std.specs.List.{range_with_len}
use Rattle.numbers.specs.Signs.{signed_by}

-- an exact share taken down
abbrev pub down : ℕ → ℕ → ℕ → ℕ
down magnitude all load = magnitude * load / all

-- an exact share that is not whole
abbrev pub broken : ℕ → ℕ → ℕ → Bool
broken magnitude all load = nat_lt 0 (magnitude * load % all)

-- the cents that are missing once each exact share is taken down
abbrev pub missing : ℕ → List ℕ → ℕ
missing magnitude loads = magnitude - sum_by (down magnitude (sum loads)) loads

-- the k-th gets one of them if its exact share was not whole, and fewer than are missing went to those before
unfoldable pub part : ℕ → List ℕ → ℕ → ℕ
part magnitude loads k =
    down magnitude (sum loads) (slice_index loads k)
    + cond (broken magnitude (sum loads) (slice_index loads k) && nat_lt (count_by (broken magnitude (sum loads)) (take k loads)) (missing magnitude loads)) 1 0

-- the shares, by place
unfoldable pub leftover : ℤ → List ℕ → List ℤ
leftover total loads = map (λ k. signed_by total (part (unsigned_abs total) loads k)) (range_with_len 0 (length loads))
