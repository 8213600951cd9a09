-- Submitted curves are kept by resource (1 to 9,999) and then by hour (1 to 25), at most 4,096 of them.
use Rattle.std.specs.Prelude.{ℕ, ◌&&◌, nat_le}
use Rattle.directory.specs.Orders.{by_size, in_turn}
use Rattle.directory.specs.Kinds.{Kind}
use Rattle.curves.specs.declared.keys.CurveKey.{CurveKey}
use Rattle.curves.specs.declared.points.SubmittedCurve.{SubmittedCurve}

-- what a key means
abbrev pub keyed : CurveKey → ℕ × ℕ
keyed key = (key.resource, key.hour)

-- how submitted curves are kept
abbrev pub curve_kind : Kind SubmittedCurve (ℕ × ℕ)
curve_kind = record {
  key_of = λ row. (row.resource, row.hour);
  order = in_turn by_size by_size;
  formed = λ row. ((nat_le 1 row.resource && nat_le row.resource 9999) && nat_le 1 row.hour) && nat_le row.hour 25;
  most = 4096;
}
