-- The names of records, and how many fields follow each.
use Rattle.std.specs.Prelude.{◌≡◌, ◌≢◌, ℕ, Bool, true, false, List, codes, Result, MatchResult}
use Rattle.day.specs.declared.names.Name.{Name}
use Rattle.day.specs.declared.names.Name.TheVariants.{Listed, Emergency, Loss, Unit, Bus, Entry, Balance, Settle, Restate, Void, Energy, Adders, Site, Curve, Quarter, Clear, Deny, Undeny, Adjust, Unadjust, Period, Party, Intervals}
use Rattle.day.specs.declared.names.UnknownName.{UnknownName}

-- the word that names a record
abbrev pub word_of : Name → List ℕ
word_of Listed = codes "listed"
word_of Emergency = codes "emr"
word_of Loss = codes "opl"
word_of Unit = codes "unit"
word_of Bus = codes "bus"
word_of Entry = codes "entry"
word_of Balance = codes "balance"
word_of Settle = codes "settle"
word_of Restate = codes "restate"
word_of Void = codes "void"
word_of Energy = codes "energy"
word_of Adders = codes "adders"
word_of Site = codes "site"
word_of Curve = codes "curve"
word_of Quarter = codes "quarter"
word_of Clear = codes "clear"
word_of Deny = codes "deny"
word_of Undeny = codes "undeny"
word_of Adjust = codes "adjust"
word_of Unadjust = codes "unadjust"
word_of Period = codes "period"
word_of Party = codes "party"
word_of Intervals = codes "intervals"

-- how many fields follow the name
abbrev pub field_count : Name → ℕ
field_count Listed = 3
field_count Emergency = 8
field_count Loss = 14
field_count Unit = 3
field_count Bus = 2
field_count Entry = 3
field_count Balance = 1
field_count Settle = 5
field_count Restate = 5
field_count Void = 2
field_count Energy = 1
field_count Adders = 2
field_count Site = 1
field_count Curve = 5
field_count Quarter = 1
field_count Clear = 1
field_count Deny = 1
field_count Undeny = 1
field_count Adjust = 2
field_count Unadjust = 1
field_count Period = 1
field_count Party = 1
field_count Intervals = 1

-- a record that stands only before the first call
abbrev pub gathers : Name → Bool
gathers Party = true
gathers Intervals = true
gathers Curve = true
gathers _ = false

-- the name whose word it is, or that it is the word of none
abbrev pub Named : List ℕ → Result Name UnknownName → Type 0
Named word result = MatchResult result (λ name. word ≡ word_of name) (λ _. (name : Name) → word ≢ word_of name)
