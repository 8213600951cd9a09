-- A magnitude with a sign put back.
use Rattle.std.specs.Prelude.{ℕ, ℤ, pos, negsuc, neg_ℤ}

-- the magnitude m with the sign of z
unfoldable pub signed_by : ℤ → ℕ → ℤ
signed_by (pos n) m = pos m
signed_by (negsuc n) m = neg_ℤ (pos m)
