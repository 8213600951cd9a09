-- What a record that stands before the first call does.
use Rattle.std.specs.Prelude.{◌≡◌, [], ◌∷◌, ◌++◌}
use Rattle.day.specs.declared.records.Enrolment.{Enrolment}
use Rattle.day.specs.declared.records.Enrolment.TheVariants.{Party, Intervals, Curve}
use Rattle.daybook.specs.declared.enrolled.Enrolled.{Enrolled}

-- the same parties, number of intervals and curves
abbrev pub Same : Enrolled → Enrolled → Type 0
Same old new = (new.parties ≡ old.parties) × (new.intervals ≡ old.intervals) × (new.curves.items ≡ old.curves.items)

-- one party more, another number of intervals, or one curve more; all else stays
abbrev pub Enrols : Enrolment → Enrolled → Enrolled → Type 0
Enrols (Party code) old new = (new.parties ≡ old.parties ++ code.now ∷ []) × (new.intervals ≡ old.intervals) × (new.curves.items ≡ old.curves.items)
Enrols (Intervals count) old new = (new.parties ≡ old.parties) × (new.intervals ≡ count) × (new.curves.items ≡ old.curves.items)
Enrols (Curve row) old new = (new.parties ≡ old.parties) × (new.intervals ≡ old.intervals) × (new.curves.items ≡ old.curves.items ++ row ∷ [])

-- a party or a curve more needs memory, and so may be told that it is short
abbrev pub Grows : Enrolment → Type 0
Grows (Party code) = Unit {0}
Grows (Intervals count) = ⊥
Grows (Curve row) = Unit {0}
