-- When a change of a day's tables, or the opening of its book, is refused, and by which number and place.
use Rattle.std.specs.Prelude.{◌≡◌, ℕ, ◌*◌, ◌≤◌, min, [], ◌∷◌, ◌++◌, length, List, pos, Ok, Err, None, Some, Option, Result, unwrap_or}
use Rattle.charges.specs.Settings as settings_table
use Rattle.curves.specs.declared.points.SubmittedCurve.{SubmittedCurve}
use Rattle.curves.specs.Keys.{curve_kind}
use Rattle.day.specs.declared.records.Change.{Change}
use Rattle.day.specs.declared.records.Change.TheVariants as changes
use Rattle.day.specs.declared.records.Setting.{Setting as LayerSetting}
use Rattle.day.specs.declared.records.Setting.TheVariants as settings
use Rattle.daybook.specs.declared.notdone.NotDone.{NotDone}
use Rattle.daybook.specs.declared.notdone.NotDone.TheVariants.{Malformed, Refused, Memory}
use Rattle.daybook.specs.declared.notdone.Refused.{Refused as Refusing}
use Rattle.daybook.specs.declared.tables.Layers.{Layers}
use Rattle.daybook.specs.declared.tables.Parts.{Parts}
use Rattle.daybook.specs.declared.tables.Tables.{Tables}
use Rattle.directory.specs.declared.parties.PartyCode.{PartyCode}
use Rattle.directory.specs.Codes.{party_kind}
use Rattle.directory.specs.Refusals as directories
use Rattle.law.specs.Settlements.{Among}
use Rattle.numbers.specs.Checks as table
use Rattle.quarters.specs.declared.quarter.QuarterHour.{QuarterHour}
use Rattle.quarters.specs.Quarters.{slices_of}
use Rattle.quarters.specs.Slices as quarters
use Rattle.sites.specs.Refusals as sites

-- the checks of a setting of a layer; to remove one has none
abbrev pub setting_checks : LayerSetting → Layers → List table.Check
setting_checks (settings.Deny resource) layers = settings_table.checks layers.denial.table (min resource 65535) (pos 0)
setting_checks (settings.Undeny resource) layers = []
setting_checks (settings.Adjust resource figure) layers = settings_table.checks layers.adjustment.table (min resource 65535) figure
setting_checks (settings.Unadjust resource) layers = []

-- those of the site that the parts make, under their slices, or those in force where they have none; it has room for as many rows as a site may have units
abbrev pub site_checks : QuarterHour → Parts → List table.Check
site_checks quarter parts = sites.parts_checks (length (slices_of (unwrap_or parts.quarter quarter))) parts.adders parts.buses.items parts.units.items 8

-- the checks of a change, in order: slices are a quarter hour, a site and a setting pass theirs; a row and a part stand as they are read
abbrev pub change_checks : Change → Tables → List table.Check
change_checks (changes.Quarter seconds) old = quarters.checks seconds.items
change_checks (changes.Site rule) old = site_checks old.quarter old.parts
change_checks (changes.Setting setting) old = setting_checks setting old.layers
change_checks _ old = []

-- the changes that need memory, and so may be told that it is short: a row or a part more, and a site's rows
abbrev pub Grows : Change → Type 0
Grows (changes.Emergency row) = Unit {0}
Grows (changes.Loss row) = Unit {0}
Grows (changes.Listed row) = Unit {0}
Grows (changes.Bus bus) = Unit {0}
Grows (changes.Unit unit) = Unit {0}
Grows (changes.Site rule) = Unit {0}
Grows _ = ⊥

-- the refusal tells the number and place of the first check that does not pass, and no fault
abbrev pub RefusedBy : List table.Check → Refusing → Type 0
RefusedBy cs refused = table.Refused cs refused.number refused.place × (refused.fault ≡ None)

-- Done exactly where every check passes, else refused by the first that does not; but memory may be short.
abbrev pub Judged : {A : Type 0} → List table.Check → Type 0 → Result A NotDone → Type 0
Judged cs Grown (Ok x) = table.Passed cs
Judged cs Grown (Err (Refused refused)) = RefusedBy cs refused
Judged cs Grown (Err (Malformed field)) = ⊥
Judged cs Grown (Err Memory) = table.Passed cs × Grown

-- the checks of the curves; no curves at all have none
abbrev pub curve_checks : List SubmittedCurve → List table.Check
curve_checks [] = []
curve_checks (curve ∷ curves) = directories.checks curve_kind (curve ∷ curves)

-- the checks before a day's book is opened, in order: the parties' codes, and the curves
abbrev pub directory_checks : List PartyCode → List SubmittedCurve → List table.Check
directory_checks codes curves = directories.checks party_kind codes ++ curve_checks curves

-- the size of a book is within the limits, and so many slots and entries are enough
abbrev pub Sized : (parties intervals slots entries : ℕ) → Type 0
Sized parties intervals slots entries = Among parties 64 × Among intervals 100 × (3 * intervals ≤ slots) × (3 * intervals * parties ≤ entries)

-- the checks of an opening: these, and then the size
abbrev pub opening_checks : List PartyCode → List SubmittedCurve → (parties intervals slots entries : ℕ) → List table.Check
opening_checks codes curves parties intervals slots entries = directory_checks codes curves ++ table.whole 61 (Sized parties intervals slots entries) ∷ []

-- The opening is refused by the first check that does not pass, and by none exactly where all pass.
abbrev pub OpenedOr : List table.Check → Option Refusing → Type 0
OpenedOr cs None = table.Passed cs
OpenedOr cs (Some refused) = RefusedBy cs refused
