-- Where an exact half goes: away from zero. No other file of definitions says so.
use Rattle.std.specs.Prelude.{ℕ, ◌+◌, ◌*◌, ◌<◌, ℤ, unsigned_abs}

-- a magnitude of q and a half
unfoldable pub from_half : ℕ → ℕ
from_half q = q + 1

-- where r lies half a unit from n / d, it is the one of two that the rule names: the one further from zero
unfoldable pub ByHalf : ℤ → ℕ → ℤ → Type 0
ByHalf n d r = unsigned_abs n < unsigned_abs r * d
