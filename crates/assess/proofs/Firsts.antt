-- The two halves of the checks together are the table's.
use Rattle.std.proofs.Common.{◌≡◌, ℕ, Bool, List, [], ◌∷◌, ◌++◌, Option, sym, refl, ap, ◌∙◌}
use Rattle.charges.specs.Lines.{Line}
use Rattle.law.specs.Steps.{Carried, Finding, clear, raises, both, first, checks}
use Rattle.assess.specs.Halves.{slot_checks, line_checks}

both_assoc : (a b c : Finding) → both (both a b) c ≡ both a (both b c)
both_assoc clear b c = refl
both_assoc (raises n p f) b c = refl

first_append : (cs ds : List Finding) → first (cs ++ ds) ≡ both (first cs) (first ds)
first_append [] ds = refl
first_append (c ∷ cs) ds = ap (both c) (first_append cs ds) ∙ sym (both_assoc c (first cs) (first ds))

module _ (n m : ℕ) (st w : Bool) (t i : ℕ) (loads : List ℕ) (lines : List Line) where
  whole : first (checks n m st w t i loads lines) ≡ both (first (slot_checks n m st w t i loads)) (first (line_checks n t i loads lines))
  whole = first_append (slot_checks n m st w t i loads) (line_checks n t i loads lines)

  pub stopped_early : (k p : ℕ) (f : Option Carried) → raises k p f ≡ first (slot_checks n m st w t i loads) → raises k p f ≡ first (checks n m st w t i loads lines)
  stopped_early k p f e = sym (whole ∙ ap (λ c. both c (first (line_checks n t i loads lines))) (sym e))
