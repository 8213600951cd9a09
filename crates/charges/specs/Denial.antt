-- What the denial layer means.
use Rattle.std.specs.Prelude.{cond, List, pos, is_some, Ok}
use Rattle.charges.specs.Lines.{Entry, Line}
use Rattle.charges.specs.Layers.{layered}
use Rattle.charges.specs.Settings.{Held}

-- the amount of a resource that is held is 0
abbrev pub denied_entry : Held → Entry → Entry
denied_entry held e = cond (is_some (held e.0)) (e.0, e.1, pos 0) e

-- the lines of the layer
abbrev pub denied_lines : Held → List Line → List Line
denied_lines held ls = layered (λ n e. Ok (denied_entry held e)) ls
