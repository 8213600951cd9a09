-- The layers keep lines within their limits. Proved here.
use Rattle.std.specs.Prelude.{List, pos, is_some, Ok, nat_lt, unsigned_abs}
use Rattle.std.proofs.Common.{arith}
use Rattle.std.proofs.lemmas.Bool.{cond_both, ltb-false}
use Rattle.charges.specs.declared.period.State.{State}
use Rattle.charges.specs.declared.period.State.TheVariants.{Open, Closed}
use Rattle.charges.specs.Lines.{Entry, Line, Ranged, Sound}
use Rattle.charges.specs.SourceLaws.{sound_layered}
use Rattle.charges.specs.Settings.{Held}
use Rattle.charges.specs.Period.{period_entry, period_lines}
use Rattle.charges.specs.Denial.{denied_entry, denied_lines}
use Rattle.charges.specs.Adjustment.{answer_of, adjusted_amount, adjusted_entry, adjusted_lines}

pub period_sound : (state : State) (ls : List Line) → Sound ls → Sound (period_lines state ls)
period_sound state ls s = sound_layered (λ n e. Ok (period_entry state e)) ls (λ n e. keeps state e) s
  where
    keeps : (state : State) (e : Entry) → Ranged (Ok e) → Ranged (Ok (period_entry state e))
    keeps Open e h = h
    keeps Closed e h = (h.0, h.1, omega arith)

pub denied_sound : (held : Held) (ls : List Line) → Sound ls → Sound (denied_lines held ls)
denied_sound held ls s =
    sound_layered (λ n e. Ok (denied_entry held e)) ls
    (λ n e h. cond_both (is_some (held e.0)) (e.0, e.1, pos 0) e (λ x. Ranged (Ok x)) (λ _. (h.0, h.1, omega arith)) (λ _. h)) s

pub adjusted_sound : (held : Held) (ls : List Line) → Sound ls → Sound (adjusted_lines held ls)
adjusted_sound held ls s =
    sound_layered (λ n e. answer_of (adjusted_entry held n e)) ls
    (λ n e h. cond_both (nat_lt 3000000000 (unsigned_abs (adjusted_amount held e))) _ _ (λ l. Ranged (answer_of l)) (λ _. tt)
    (λ a. (h.0, h.1, ltb-false 3000000000 (unsigned_abs (adjusted_amount held e)) a))) s
