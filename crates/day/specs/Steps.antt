-- What the reader of a record does at each field.
use Rattle.std.specs.Prelude.{◌≡◌, ℕ, suc, zero, ◌+◌, Bool, List, length, Some, None, Option, Ok, Err, Result}
use Rattle.text.specs.Fields.{left}
use Rattle.text.specs.declared.fields.Fault.{Fault}
use Rattle.text.specs.declared.fields.Fault.TheVariants.{Malformed, Memory}
use Rattle.day.specs.Texts.{says, behind}
use Rattle.day.specs.Records.{after, first_wrong}
use Rattle.day.specs.declared.reading.RecordReader.{RecordReader}
use Rattle.day.specs.declared.records.Record.{Record}

-- the number of the field that stands so many behind field k
abbrev pub places : ℕ → ℕ → ℕ
places zero k = k
places (suc n) k = places n (after k)

-- so many fields were read, and nothing else of the reader is another
abbrev pub Moves : ℕ → RecordReader → RecordReader → Type 0
Moves n old new = (new.fields.rest.now ≡ behind n old.fields.rest.now) × (length (left old.fields.rest.now) ≡ n + length (left new.fields.rest.now)) × (new.at ≡ places n old.at) × (new.scene ≡ old.scene)

-- The next field says x, and is read. Or it says nothing, and is told.
abbrev pub Gives : {A B : Type 0} → (List ℕ → Option B) → (A → B) → RecordReader → RecordReader → Result A Fault → Type 0
Gives reading value old new (Ok x) = (says reading old.fields.rest.now ≡ Some (value x)) × Moves 1 old new
Gives reading value old new (Err (Malformed k)) = (says reading old.fields.rest.now ≡ None) × (k ≡ after old.at)
Gives reading value old new (Err Memory) = Unit {0}

-- So many fields are of these forms, and are read. Or the first that is not is told.
abbrev pub Takes : {A : Type 0} → ℕ → List (List ℕ → Bool) → RecordReader → RecordReader → Result A Fault → Type 0
Takes n forms old new (Ok x) = (first_wrong old.at forms old.fields.rest.now ≡ None) × Moves n old new
Takes n forms old new (Err (Malformed k)) = first_wrong old.at forms old.fields.rest.now ≡ Some k
Takes n forms old new (Err Memory) = Unit {0}

-- A record is read exactly if nothing is wrong with it, and what is wrong is told; but for want of memory.
abbrev pub Told : Option ℕ → Result Record Fault → Type 0
Told wrong (Ok r) = wrong ≡ None
Told wrong (Err (Malformed k)) = wrong ≡ Some k
Told wrong (Err Memory) = Unit {0}
