-- What a layer makes of a source's lines and bases.
use Rattle.std.specs.Prelude.{ℕ, List, Ok, Err}
use Rattle.charges.specs.Lines.{Entry, Line}
use Rattle.charges.specs.Rows.{numbered}

-- of one line: an entry goes by g, a fault is passed on whole
abbrev pub on_entry : (Entry → Line) → Line → Line
on_entry g (Ok e) = g e
on_entry g (Err x) = Err x

-- of every line: the layer makes f n e of the entry e at line n
abbrev pub layered : (ℕ → Entry → Line) → List Line → List Line
layered f ls = numbered (λ n l. on_entry (f n) l) 1 ls

-- the basis from below, where the layer's line is no fault
abbrev pub resting : Line → ℕ → ℕ
resting (Ok e) b = b
resting (Err x) b = 0
