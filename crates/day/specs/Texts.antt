-- What the text of a field says: each kind of field is a reading, which gives what a text says, if it says anything.
use Rattle.std.specs.Prelude.{ℕ, suc, zero, ◌+◌, ◌-◌, ◌*◌, ◌/◌, ◌%◌, ◌==◌, length, slice_get, ◌&&◌, min, Bool, true, false, cond, List, [], ◌∷◌, map, codes, ℤ, pos, Some, None, Option, option_map, bytes_eq}
use Rattle.std.specs.Option.{option_map_or}
use Rattle.text.specs.Text.{and_then}
use Rattle.text.specs.Numbers.{signed64, natural32, number_in, number_or_zero_in}
use Rattle.text.specs.Lists.{list_in}
use Rattle.text.specs.Fields.{next_text, next_rest}
use Rattle.charges.specs.declared.period.State.{State}
use Rattle.charges.specs.declared.period.State.TheVariants as states
use Rattle.curves.specs.declared.points.Point.{Point}
use Rattle.sharing.specs.declared.choice.RuleChoice.{RuleChoice}
use Rattle.sharing.specs.declared.choice.RuleChoice.TheVariants as rules
use Rattle.day.specs.declared.reading.Costing.{Costing}
use Rattle.day.specs.declared.reading.Costing.TheVariants as costings
use Rattle.day.specs.declared.records.SourceName.{SourceName}
use Rattle.day.specs.declared.records.SourceName.TheVariants as sources
use Rattle.day.specs.Held.{held_signed, held_natural}
use Rattle.day.specs.Parties.{number_of}

-- what the next field says, if there is one and it can be read
abbrev pub says : {A : Type 0} → (List ℕ → Option A) → List ℕ → Option A
says reading s = and_then (next_text s) reading

-- what is left behind so many fields
abbrev pub behind : ℕ → List ℕ → List ℕ
behind zero s = s
behind (suc n) s = behind n (next_rest s)

-- what field k says, the first being 1
abbrev pub field : {A : Type 0} → ℕ → (List ℕ → Option A) → List ℕ → Option A
field k reading s = says reading (behind (k - 1) s)

-- any bytes
abbrev pub any : List ℕ → Option (List ℕ)
any t = Some t

-- a number of 64 bits with a sign
abbrev pub number : List ℕ → Option ℤ
number = number_in signed64

-- a natural number of 32 bits
abbrev pub natural : List ℕ → Option ℕ
natural = number_in natural32

-- a number as a type of the library holds it
abbrev pub held_in : {A B : Type 0} → (A → B) → (List ℕ → Option A) → List ℕ → Option B
held_in held reading t = option_map held (reading t)

-- a number as 32 bits with a sign hold it
abbrev pub signed : List ℕ → Option ℤ
signed = held_in held_signed number

-- a number as 32 bits without a sign hold it
abbrev pub unsigned : List ℕ → Option ℕ
unsigned = held_in held_natural number

-- a natural number as 16 bits hold it
abbrev pub short : List ℕ → Option ℕ
short = held_in (λ n. min n 65535) natural

-- a natural number as 8 bits hold it
abbrev pub byte : List ℕ → Option ℕ
byte = held_in (λ n. min n 255) natural

-- a number that is not used: it may be left out
abbrev pub unused : List ℕ → Option ℤ
unused = number_or_zero_in signed64

-- a natural number that is not used
abbrev pub unused_natural : List ℕ → Option ℕ
unused_natural = number_or_zero_in natural32

-- what a word stands for in a table of words
abbrev pub worded : {A : Type 0} → List (List ℕ × A) → List ℕ → Option A
worded [] t = None
worded (entry ∷ entries) t = cond (bytes_eq t entry.0) (Some entry.1) (worded entries t)

-- a mark
abbrev pub mark : List ℕ → Option Bool
mark = worded ((codes "yes", true) ∷ (codes "no", false) ∷ [])

-- a source, by its table of rows
abbrev pub source : List ℕ → Option SourceName
source = worded ((codes "emr", sources.Emergency) ∷ (codes "opl", sources.Loss) ∷ (codes "listed", sources.Listed) ∷ [])

-- a sharing rule
abbrev pub rule : List ℕ → Option RuleChoice
rule = worded ((codes "running", rules.Running) ∷ (codes "leftover", rules.Leftover) ∷ [])

-- the state of a period
abbrev pub state : List ℕ → Option State
state = worded ((codes "open", states.Open) ∷ (codes "closed", states.Closed) ∷ [])

-- how the cost of a row is known
abbrev pub costing : List ℕ → Option Costing
costing = worded ((codes "verified", costings.Verified) ∷ (codes "proxy", costings.Proxy) ∷ (codes "storage", costings.Storage) ∷ [])

-- `#` and a number stand for that number, and any other text for what it names
abbrev pub hashed : (List ℕ → Option ℕ) → List ℕ → Option ℕ
hashed named [] = named []
hashed named (c ∷ s) = cond (c == 35) (natural s) (named (c ∷ s))

-- the number of a charge type
abbrev pub charge_type : List ℕ → Option ℕ
charge_type = hashed (worded ((codes "EMR", 1) ∷ (codes "OPL", 2) ∷ (codes "SOG", 3) ∷ []))

-- the number of a party: that behind `#`, or that of the first enrolled party with that code
abbrev pub party : List (List ℕ) → List ℕ → Option ℕ
party parties = hashed (λ code. number_of code parties)

-- the number at a place of a list as the library holds it, 0 behind the list
abbrev pub held_at : List ℤ → ℕ → ℤ
held_at xs i = option_map_or held_signed (slice_get xs i) (pos 0)

-- what a function gives at so many numbers from i on
abbrev pub made_by : {A : Type 0} → (ℕ → A) → ℕ → ℕ → List A
made_by value i zero = []
made_by value i (suc n) = value i ∷ made_by value (i + 1) n

-- point i of a list of numbers: a power and a price, in turn
abbrev pub point_at : List ℤ → ℕ → Point
point_at xs i = record { power = held_at xs (2 * i); price = held_at xs (2 * i + 1) }

-- a list of numbers
abbrev pub list : List ℕ → Option (List ℤ)
list = list_in signed64

-- a list of numbers for which a test holds
abbrev pub tested : (List ℤ → Bool) → List ℕ → Option (List ℤ)
tested holds t = and_then (list t) (λ xs. cond (holds xs) (Some xs) None)

-- how many points there are, and the ten for which a curve has room; an odd number of figures is none
abbrev pub points : List ℕ → Option (ℕ × List Point)
points t = option_map (λ xs. (length xs / 2, made_by (point_at xs) 0 10)) (tested (λ xs. length xs % 2 == 0) t)

-- the slices of what is already there, if there is any, are those in force
abbrev pub agree : Option (List ℕ) → List ℕ → Bool
agree None slices = true
agree (Some others) slices = bytes_eq others slices

-- a figure for each slice in force, in a row that has room for fifteen; none where the slices are others than those of what is there
abbrev pub figures : List ℕ → Option (List ℕ) → List ℕ → Option (List ℤ)
figures slices others t = option_map (λ xs. made_by (held_at xs) 0 15) (tested (λ xs. (length xs == length slices) && agree others slices) t)

-- the loads of a settlement
abbrev pub loads : List ℕ → Option (List ℕ)
loads t = option_map (map held_natural) (list t)

-- the seconds of the slices
abbrev pub seconds : List ℕ → Option (List ℕ)
seconds t = option_map (map (λ n. min n 65535)) (list_in natural32 t)

-- the number of a party as a row holds it
abbrev pub party_byte : List (List ℕ) → List ℕ → Option ℕ
party_byte parties = held_in (λ n. min n 255) (party parties)
