-- What is read of a line that holds a record.
use Rattle.std.specs.Prelude.{◌≡◌, ◌≢◌, ℕ, ◌⊎◌, List, Err, Result, IfOk}
use Rattle.text.specs.declared.fields.Fault.{Fault}
use Rattle.text.specs.declared.fields.Fault.TheVariants.{Malformed}
use Rattle.day.specs.declared.names.Name.{Name}
use Rattle.day.specs.declared.reading.Scene.{Scene}
use Rattle.day.specs.declared.records.Record.{Record}
use Rattle.day.specs.Names.{word_of}
use Rattle.day.specs.Records.{name_of, malformed_at, Said}
use Rattle.day.specs.Steps.{Told}

-- The word names a record, and that is read from the fields or told as malformed. Or it names none, which is told as field 0.
abbrev pub IsRead : Scene → List ℕ → List ℕ → Result Record Fault → Type 0
IsRead scene word rest result = ((name : Name) × (word ≡ word_of name) × Told (malformed_at scene name rest) result × IfOk result (λ r. (name_of r ≡ name) × Said scene rest r)) ⊎ (((name : Name) → word ≢ word_of name) × (result ≡ Err (Malformed 0)))
