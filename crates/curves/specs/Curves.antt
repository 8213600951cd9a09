-- The points of a curve.
use Rattle.std.specs.Prelude.{List}
use Rattle.bounded.specs.Items.{items_of}
use Rattle.curves.specs.declared.curve.Curve.{Curve}
use Rattle.curves.specs.declared.points.Point.{Point}

-- the points that count
abbrev pub points_of : Curve → List Point
points_of c = items_of c.points
