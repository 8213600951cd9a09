-- What a record that changes the tables of rows, the parts of a site or the layers does.
use Rattle.std.specs.Prelude.{◌≡◌, [], ◌∷◌, ◌++◌, length, ◌==◌, cond, min, Ok, Some, None, option_map, option_copied, unwrap_or, List, map, ℤ, pos, replicate}
use Rattle.std.specs.List.{zip}
use Rattle.charges.specs.declared.listed.ListedRow.{ListedRow}
use Rattle.charges.specs.Settings.{WasSet, WasRemoved}
use Rattle.day.specs.declared.records.Change.{Change}
use Rattle.day.specs.declared.records.Change.TheVariants.{Quarter, Emergency, Loss, Listed, Clear, Bus, Adders, Unit, Site, Period, Setting}
use Rattle.day.specs.declared.records.SourceName.{SourceName}
use Rattle.day.specs.declared.records.SourceName.TheVariants as sources
use Rattle.day.specs.declared.reading.Scene.{Scene}
use Rattle.day.specs.declared.records.Setting.{Setting as LayerSetting}
use Rattle.day.specs.declared.records.Setting.TheVariants as settings
use Rattle.daybook.specs.declared.answer.Answer.{Answer}
use Rattle.daybook.specs.declared.answer.Answer.TheVariants as answers
use Rattle.daybook.specs.declared.tables.Layers.{Layers}
use Rattle.daybook.specs.declared.tables.Parts.{Parts}
use Rattle.daybook.specs.declared.tables.Tables.{Tables}
use Rattle.quarters.specs.declared.quarter.QuarterHour.{QuarterHour}
use Rattle.quarters.specs.Quarters.{slices_of}
use Rattle.sharing.specs.declared.choice.RuleChoice.{RuleChoice}
use Rattle.sharing.specs.Choice.{chosen}
use Rattle.sites.specs.Sites.{site_amount, readings, row_of}

-- the same slices in force
abbrev pub SameQuarter : Tables → Tables → Type 0
SameQuarter old new = new.quarter ≡ old.quarter

-- the same emergency rows, under the same slices
abbrev pub SameEmergency : Tables → Tables → Type 0
SameEmergency old new = (new.emergency.items ≡ old.emergency.items) × (new.emergency_quarter ≡ old.emergency_quarter)

-- the same operating-loss rows
abbrev pub SameLosses : Tables → Tables → Type 0
SameLosses old new = new.losses.items ≡ old.losses.items

-- the same listed rows
abbrev pub SameListed : Tables → Tables → Type 0
SameListed old new = new.listed.items ≡ old.listed.items

-- the same rows
abbrev pub SameRows : Tables → Tables → Type 0
SameRows old new = SameEmergency old new × SameLosses old new × SameListed old new

-- the same parts of the next site
abbrev pub SameParts : Parts → Parts → Type 0
SameParts old new = (new.quarter ≡ old.quarter) × (new.buses.items ≡ old.buses.items) × (new.adders ≡ old.adders) × (new.units.items ≡ old.units.items)

-- no parts, and adders of 0
pub record Dropped (parts : Parts) : Type 0 where
  pub quarter : parts.quarter ≡ None
  pub buses : parts.buses.items ≡ []
  pub adders : parts.adders ≡ record { first = replicate 15 (pos 0); second = replicate 15 (pos 0) }
  pub units : parts.units.items ≡ []

-- the same layers
abbrev pub SameLayers : Tables → Tables → Type 0
SameLayers old new = new.layers ≡ old.layers

-- nothing is changed
abbrev pub Same : Tables → Tables → Type 0
Same old new = SameQuarter old new × SameRows old new × SameParts old.parts new.parts × SameLayers old new

-- the table of that name is empty, and the others stay
abbrev pub Cleared : SourceName → Tables → Tables → Type 0
Cleared sources.Emergency old new = (new.emergency.items ≡ []) × (new.emergency_quarter ≡ old.emergency_quarter) × SameLosses old new × SameListed old new
Cleared sources.Loss old new = SameEmergency old new × (new.losses.items ≡ []) × SameListed old new
Cleared sources.Listed old new = SameEmergency old new × SameLosses old new × (new.listed.items ≡ [])

-- a setting is made, and nothing else of the layers changes; a number of more than 16 bits is taken as the largest, which is no resource
abbrev pub SettingMade : LayerSetting → Layers → Layers → Type 0
SettingMade (settings.Deny resource) old new = (new.state ≡ old.state) × WasSet old.denial.table new.denial.table (min resource 65535) (pos 0) (Ok tt) × (new.adjustment ≡ old.adjustment)
SettingMade (settings.Undeny resource) old new = (new.state ≡ old.state) × WasRemoved old.denial.table new.denial.table (min resource 65535) × (new.adjustment ≡ old.adjustment)
SettingMade (settings.Adjust resource figure) old new = (new.state ≡ old.state) × (new.denial ≡ old.denial) × WasSet old.adjustment.table new.adjustment.table (min resource 65535) figure (Ok tt)
SettingMade (settings.Unadjust resource) old new = (new.state ≡ old.state) × (new.denial ≡ old.denial) × WasRemoved old.adjustment.table new.adjustment.table (min resource 65535)

-- the amount of the site that the parts make, under their slices, or those in force where they have none
abbrev pub parts_amount : QuarterHour → Parts → ℤ
parts_amount quarter parts = site_amount (slices_of (unwrap_or parts.quarter quarter)) parts.adders parts.buses.items

-- the rows of that site by a rule: each unit's resource and party, with its share of the amount
abbrev pub parts_rows : RuleChoice → QuarterHour → Parts → List ListedRow
parts_rows rule quarter parts = map (λ p. row_of p.0 p.1) (zip parts.units.items (chosen rule (parts_amount quarter parts) (readings parts.units.items)))

-- what the next record is read under: the slices in force, those of the emergency rows if there are any, and those of the site's parts if there are any
pub record Under (tables : Tables) (scene : Scene) : Type 0 where
  pub slices : scene.slices.now ≡ slices_of tables.quarter
  pub rows : option_copied scene.of_rows ≡ cond (length tables.emergency.items == 0) None (Some (slices_of tables.emergency_quarter))
  pub parts : option_copied scene.of_parts ≡ option_map slices_of tables.parts.quarter

-- the change is made, and all else stays
abbrev pub Makes : Change → Tables → Tables → Type 0
Makes (Quarter seconds) old new = (slices_of new.quarter ≡ seconds.items) × SameRows old new × SameParts old.parts new.parts × SameLayers old new
Makes (Emergency row) old new = SameQuarter old new × (new.emergency.items ≡ old.emergency.items ++ row ∷ []) × (new.emergency_quarter ≡ old.quarter) × SameLosses old new × SameListed old new × SameParts old.parts new.parts × SameLayers old new
Makes (Loss row) old new = SameQuarter old new × SameEmergency old new × (new.losses.items ≡ old.losses.items ++ row ∷ []) × SameListed old new × SameParts old.parts new.parts × SameLayers old new
Makes (Listed row) old new = SameQuarter old new × SameEmergency old new × SameLosses old new × (new.listed.items ≡ old.listed.items ++ row ∷ []) × SameParts old.parts new.parts × SameLayers old new
Makes (Clear source) old new = SameQuarter old new × Cleared source old new × SameParts old.parts new.parts × SameLayers old new
Makes (Bus bus) old new = SameQuarter old new × SameRows old new × (new.parts.quarter ≡ Some old.quarter) × (new.parts.buses.items ≡ old.parts.buses.items ++ bus ∷ []) × (new.parts.adders ≡ old.parts.adders) × (new.parts.units.items ≡ old.parts.units.items) × SameLayers old new
Makes (Adders adders) old new = SameQuarter old new × SameRows old new × (new.parts.quarter ≡ Some old.quarter) × (new.parts.buses.items ≡ old.parts.buses.items) × (new.parts.adders ≡ adders) × (new.parts.units.items ≡ old.parts.units.items) × SameLayers old new
Makes (Unit unit) old new = SameQuarter old new × SameRows old new × (new.parts.quarter ≡ old.parts.quarter) × (new.parts.buses.items ≡ old.parts.buses.items) × (new.parts.adders ≡ old.parts.adders) × (new.parts.units.items ≡ old.parts.units.items ++ unit ∷ []) × SameLayers old new
Makes (Site rule) old new = SameQuarter old new × SameEmergency old new × SameLosses old new × (new.listed.items ≡ old.listed.items ++ parts_rows rule old.quarter old.parts) × Dropped new.parts × SameLayers old new
Makes (Period state) old new = SameQuarter old new × SameRows old new × SameParts old.parts new.parts × (new.layers.state ≡ state) × (new.layers.denial ≡ old.layers.denial) × (new.layers.adjustment ≡ old.layers.adjustment)
Makes (Setting setting) old new = SameQuarter old new × SameRows old new × SameParts old.parts new.parts × SettingMade setting old.layers new.layers

-- what a change that is not made leaves: everything; but a site's parts are dropped
abbrev pub Leaves : Change → Tables → Tables → Type 0
Leaves (Site rule) old new = SameQuarter old new × SameRows old new × Dropped new.parts × SameLayers old new
Leaves _ old new = Same old new

-- what is answered to a change that is made: of a site its amount and how many rows it gave; of a setting that it is done; else nothing
abbrev pub AnsweredBy : Change → Tables → Answer → Type 0
AnsweredBy (Site rule) old answer = answer ≡ answers.Site (record { amount = parts_amount old.quarter old.parts; rows = length old.parts.units.items })
AnsweredBy (Setting setting) old answer = answer ≡ answers.Done
AnsweredBy _ old answer = answer ≡ answers.Silent
