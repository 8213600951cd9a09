-- What the period layer means.
use Rattle.std.specs.Prelude.{List, pos, Ok}
use Rattle.charges.specs.declared.period.State.{State}
use Rattle.charges.specs.declared.period.State.TheVariants.{Open, Closed}
use Rattle.charges.specs.Lines.{Entry, Line}
use Rattle.charges.specs.Layers.{layered}

-- open, the entry as it is; closed, its amount is 0
abbrev pub period_entry : State → Entry → Entry
period_entry Open e = e
period_entry Closed e = (e.0, e.1, pos 0)

-- the lines of the layer
abbrev pub period_lines : State → List Line → List Line
period_lines state ls = layered (λ n e. Ok (period_entry state e)) ls
