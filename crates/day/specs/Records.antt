-- Which fields follow a record's name, and what the record holds of them.
use Rattle.std.specs.Prelude.{◌≡◌, ℕ, ◌+◌, ◌-◌, ◌^◌, min, Bool, cond, not, ◌&&◌, ◌||◌, ◌==◌, length, List, [], ◌∷◌, ◌++◌, Some, None, Option, is_some, option_copied}
use Rattle.charges.specs.declared.listed.ListedRow.{ListedRow}
use Rattle.curves.specs.declared.points.SubmittedCurve.{SubmittedCurve}
use Rattle.emergency.specs.declared.row.EmergencyRow.{EmergencyRow}
use Rattle.losses.specs.declared.row.Kind.{Kind}
use Rattle.losses.specs.declared.row.Kind.TheVariants as kinds
use Rattle.losses.specs.declared.row.LossRow.{LossRow}
use Rattle.sites.specs.declared.site.Adders.{Adders}
use Rattle.sites.specs.declared.site.Bus.{Bus}
use Rattle.sites.specs.declared.site.SiteUnit.{SiteUnit}
use Rattle.text.specs.Fields.{next_rest, left}
use Rattle.day.specs.declared.names.Name.{Name}
use Rattle.day.specs.declared.names.Name.TheVariants as names
use Rattle.day.specs.declared.reading.Costing.{Costing}
use Rattle.day.specs.declared.reading.Costing.TheVariants as costings
use Rattle.day.specs.declared.reading.LossEnd.{LossEnd}
use Rattle.day.specs.declared.reading.Scene.{Scene}
use Rattle.day.specs.declared.records.Call.{Call}
use Rattle.day.specs.declared.records.Call.TheVariants as calls
use Rattle.day.specs.declared.records.Change.{Change}
use Rattle.day.specs.declared.records.Change.TheVariants as changes
use Rattle.day.specs.declared.records.Enrolment.{Enrolment}
use Rattle.day.specs.declared.records.Enrolment.TheVariants as enrolments
use Rattle.day.specs.declared.records.PartyName.{PartyName}
use Rattle.day.specs.declared.records.Record.{Record}
use Rattle.day.specs.declared.records.Record.TheVariants as records
use Rattle.day.specs.declared.records.Setting.{Setting}
use Rattle.day.specs.declared.records.Setting.TheVariants as settings
use Rattle.day.specs.declared.records.Settlement.{Settlement}
use Rattle.day.specs.declared.records.SlotName.{SlotName}
use Rattle.day.specs.Texts.{says, behind, field, any, number, natural, signed, unsigned, short, byte, unused, unused_natural, mark, source, rule, state, costing, charge_type, party, party_byte, points, figures, loads, seconds}
use Rattle.day.specs.Names.{field_count, gathers}

-- Which record it is.

-- the name of a setting's record
abbrev pub setting_name : Setting → Name
setting_name (settings.Deny resource) = names.Deny
setting_name (settings.Undeny resource) = names.Undeny
setting_name (settings.Adjust resource figure) = names.Adjust
setting_name (settings.Unadjust resource) = names.Unadjust

-- the name of a call's record
abbrev pub call_name : Call → Name
call_name (calls.Settle settlement) = names.Settle
call_name (calls.Restate settlement) = names.Restate
call_name (calls.Void slot) = names.Void
call_name (calls.Balance party) = names.Balance
call_name (calls.Entry slot party) = names.Entry
call_name (calls.Energy source) = names.Energy

-- the name of an enrolment's record
abbrev pub enrolment_name : Enrolment → Name
enrolment_name (enrolments.Party code) = names.Party
enrolment_name (enrolments.Intervals count) = names.Intervals
enrolment_name (enrolments.Curve row) = names.Curve

-- the name of a change's record
abbrev pub change_name : Change → Name
change_name (changes.Quarter seconds) = names.Quarter
change_name (changes.Emergency row) = names.Emergency
change_name (changes.Loss row) = names.Loss
change_name (changes.Listed row) = names.Listed
change_name (changes.Clear source) = names.Clear
change_name (changes.Bus bus) = names.Bus
change_name (changes.Adders adders) = names.Adders
change_name (changes.Unit unit) = names.Unit
change_name (changes.Site rule) = names.Site
change_name (changes.Period state) = names.Period
change_name (changes.Setting setting) = setting_name setting

-- the name of a record
abbrev pub name_of : Record → Name
name_of (records.Enrolment enrolment) = enrolment_name enrolment
name_of (records.Change change) = change_name change
name_of (records.Call call) = call_name call

-- The fields that follow a name.

-- the next field can be read so
abbrev pub can : {A : Type 0} → (List ℕ → Option A) → List ℕ → Bool
can reading s = is_some (says reading s)

-- the six fields of a cost, by how it is known
abbrev pub cost_forms : Costing → List (List ℕ → Bool)
cost_forms costings.Verified = can unsigned ∷ can signed ∷ can unused ∷ can signed ∷ can unused_natural ∷ can unsigned ∷ []
cost_forms costings.Proxy = can unsigned ∷ can signed ∷ can unused ∷ can unused ∷ can byte ∷ can unsigned ∷ []
cost_forms costings.Storage = can unused ∷ can unused ∷ can signed ∷ can unused ∷ can byte ∷ can unused ∷ []

-- the fields of a loss row from the sixth on; none where it is not told how the cost is known
abbrev pub loss_forms : Option Costing → List (List ℕ → Bool)
loss_forms None = []
loss_forms (Some known) = cost_forms known ++ can signed ∷ can mark ∷ can mark ∷ []

-- the fields that follow a name
abbrev pub forms : Scene → Name → List ℕ → List (List ℕ → Bool)
forms scene names.Party s = can any ∷ []
forms scene names.Intervals s = can natural ∷ []
forms scene names.Curve s = can short ∷ can byte ∷ can signed ∷ can signed ∷ can points ∷ []
forms scene names.Quarter s = can seconds ∷ []
forms scene names.Emergency s = can (party_byte scene.parties.now) ∷ can short ∷ can signed ∷ can unsigned ∷ can signed ∷ can (figures scene.slices.now (option_copied scene.of_rows)) ∷ can byte ∷ can signed ∷ []
forms scene names.Loss s = can (party_byte scene.parties.now) ∷ can costing ∷ can short ∷ can signed ∷ can unsigned ∷ loss_forms (field 2 costing s)
forms scene names.Listed s = can (party_byte scene.parties.now) ∷ can short ∷ can number ∷ []
forms scene names.Clear s = can source ∷ []
forms scene names.Bus s = can signed ∷ can (figures scene.slices.now (option_copied scene.of_parts)) ∷ []
forms scene names.Adders s = can (figures scene.slices.now (option_copied scene.of_parts)) ∷ can (figures scene.slices.now None) ∷ []
forms scene names.Unit s = can (party_byte scene.parties.now) ∷ can short ∷ can unsigned ∷ []
forms scene names.Site s = can rule ∷ []
forms scene names.Period s = can state ∷ []
forms scene names.Deny s = can natural ∷ []
forms scene names.Undeny s = can natural ∷ []
forms scene names.Adjust s = can natural ∷ can number ∷ []
forms scene names.Unadjust s = can natural ∷ []
forms scene names.Settle s = can charge_type ∷ can natural ∷ can source ∷ can rule ∷ can loads ∷ []
forms scene names.Restate s = can charge_type ∷ can natural ∷ can source ∷ can rule ∷ can loads ∷ []
forms scene names.Void s = can charge_type ∷ can natural ∷ []
forms scene names.Balance s = can (party scene.parties.now) ∷ []
forms scene names.Entry s = can charge_type ∷ can natural ∷ can (party scene.parties.now) ∷ []
forms scene names.Energy s = can source ∷ []

-- the number of the field behind field k, as 32 bits hold it
abbrev pub after : ℕ → ℕ
after k = min (k + 1) (2 ^ 32 - 1)

-- the first field behind field k that cannot be read as its form asks, if there is one
abbrev pub first_wrong : ℕ → List (List ℕ → Bool) → List ℕ → Option ℕ
first_wrong k [] s = None
first_wrong k (form ∷ others) s = cond (form s) (first_wrong (after k) others (next_rest s)) (Some (after k))

-- the record comes too late, or with another number of fields than its name asks
abbrev pub is_misplaced : Scene → Name → List ℕ → Bool
is_misplaced scene name s = (gathers name && not scene.gathering) || not (length (left s) == field_count name)

-- the field by which a record is told as malformed, if it is: 0 for the record as a whole, else the first that is wrong
abbrev pub malformed_at : Scene → Name → List ℕ → Option ℕ
malformed_at scene name s = cond (is_misplaced scene name s) (Some 0) (first_wrong 0 (forms scene name s) s)

-- What the fields say.

-- a slot: charge type and interval
pub record SlotSaid (s : List ℕ) (slot : SlotName) : Type 0 where
  pub charge_type : field 1 charge_type s ≡ Some slot.charge_type
  pub interval : field 2 natural s ≡ Some slot.interval

-- a party, as written and by its number, in field k
pub record PartySaid (parties : List (List ℕ)) (k : ℕ) (s : List ℕ) (name : PartyName) : Type 0 where
  pub number : field k (party parties) s ≡ Some name.number
  pub written : field k any s ≡ Some name.written.now

-- a settlement: its slot, source, rule and loads
pub record SettlementSaid (s : List ℕ) (settlement : Settlement) : Type 0 where
  pub slot : SlotSaid s settlement.slot
  pub source : field 3 source s ≡ Some settlement.source
  pub rule : field 4 rule s ≡ Some settlement.rule
  pub loads : field 5 loads s ≡ Some settlement.loads.items

-- a submitted curve
pub record CurveSaid (s : List ℕ) (row : SubmittedCurve) : Type 0 where
  pub resource : field 1 short s ≡ Some row.resource
  pub hour : field 2 byte s ≡ Some row.hour
  pub lsl : field 3 signed s ≡ Some row.lsl
  pub hsl : field 4 signed s ≡ Some row.hsl
  pub points : field 5 points s ≡ Some (row.count, row.points)

-- an emergency row; its base points are as many as the slices in force
pub record EmergencySaid (scene : Scene) (s : List ℕ) (row : EmergencyRow) : Type 0 where
  pub party : field 1 (party_byte scene.parties.now) s ≡ Some row.party
  pub resource : field 2 short s ≡ Some row.resource
  pub spp : field 3 signed s ≡ Some row.spp
  pub generation : field 4 unsigned s ≡ Some row.generation
  pub charging : field 5 signed s ≡ Some row.charging
  pub bases : field 6 (figures scene.slices.now (option_copied scene.of_rows)) s ≡ Some row.bases
  pub hour : field 7 byte s ≡ Some row.hour
  pub cap : field 8 signed s ≡ Some row.cap

-- how the cost of a kind is known
abbrev pub costing_of : Kind → Costing
costing_of (kinds.Verified heat_rate fuel_price own_cost burned) = costings.Verified
costing_of (kinds.Proxy heat_rate fuel_price category burned) = costings.Proxy
costing_of (kinds.Storage charging_cost category) = costings.Storage

-- the six fields of a cost; those that its kind does not use are passed over
abbrev pub CostSaid : List ℕ → Kind → Type 0
CostSaid s (kinds.Verified heat_rate fuel_price own_cost burned) = (field 1 unsigned s ≡ Some heat_rate) × (field 2 signed s ≡ Some fuel_price) × (field 4 signed s ≡ Some own_cost) × (field 6 unsigned s ≡ Some burned)
CostSaid s (kinds.Proxy heat_rate fuel_price category burned) = (field 1 unsigned s ≡ Some heat_rate) × (field 2 signed s ≡ Some fuel_price) × (field 5 byte s ≡ Some category) × (field 6 unsigned s ≡ Some burned)
CostSaid s (kinds.Storage charging_cost category) = (field 3 signed s ≡ Some charging_cost) × (field 5 byte s ≡ Some category)

-- the nine fields of a loss row from its cost on
pub record EndSaid (s : List ℕ) (end : LossEnd) : Type 0 where
  pub cost : CostSaid s end.kind
  pub cap : field 7 signed s ≡ Some end.cap
  pub offer_at_cap : field 8 mark s ≡ Some end.offer_at_cap
  pub above_lsl : field 9 mark s ≡ Some end.above_lsl

-- what a loss row holds from its cost on
abbrev pub end_of : LossRow → LossEnd
end_of row = record { kind = row.kind; cap = row.cap; offer_at_cap = row.offer_at_cap; above_lsl = row.above_lsl }

-- a loss row: five fields, and the nine from its cost on
pub record LossSaid (scene : Scene) (s : List ℕ) (row : LossRow) : Type 0 where
  pub party : field 1 (party_byte scene.parties.now) s ≡ Some row.party
  pub known : field 2 costing s ≡ Some (costing_of row.kind)
  pub resource : field 3 short s ≡ Some row.resource
  pub spp : field 4 signed s ≡ Some row.spp
  pub generation : field 5 unsigned s ≡ Some row.generation
  pub end : EndSaid (behind 5 s) (end_of row)

-- a listed row
pub record ListedSaid (scene : Scene) (s : List ℕ) (row : ListedRow) : Type 0 where
  pub party : field 1 (party_byte scene.parties.now) s ≡ Some row.party
  pub resource : field 2 short s ≡ Some row.resource
  pub amount : field 3 number s ≡ Some row.amount

-- a bus, with a price for each slice in force
pub record BusSaid (scene : Scene) (s : List ℕ) (bus : Bus) : Type 0 where
  pub energy : field 1 signed s ≡ Some bus.energy
  pub prices : field 2 (figures scene.slices.now (option_copied scene.of_parts)) s ≡ Some bus.prices

-- the two adders, each for each slice in force
pub record AddersSaid (scene : Scene) (s : List ℕ) (adders : Adders) : Type 0 where
  pub first : field 1 (figures scene.slices.now (option_copied scene.of_parts)) s ≡ Some adders.first
  pub second : field 2 (figures scene.slices.now None) s ≡ Some adders.second

-- a unit of a site
pub record UnitSaid (scene : Scene) (s : List ℕ) (unit : SiteUnit) : Type 0 where
  pub party : field 1 (party_byte scene.parties.now) s ≡ Some unit.party
  pub resource : field 2 short s ≡ Some unit.resource
  pub reading : field 3 unsigned s ≡ Some unit.reading

-- a setting of a layer: the resource, and for an adjustment the figure
abbrev pub SettingSaid : List ℕ → Setting → Type 0
SettingSaid s (settings.Deny resource) = field 1 natural s ≡ Some resource
SettingSaid s (settings.Undeny resource) = field 1 natural s ≡ Some resource
SettingSaid s (settings.Adjust resource figure) = (field 1 natural s ≡ Some resource) × (field 2 number s ≡ Some figure)
SettingSaid s (settings.Unadjust resource) = field 1 natural s ≡ Some resource

-- what stands before the first call
abbrev pub EnrolmentSaid : List ℕ → Enrolment → Type 0
EnrolmentSaid s (enrolments.Party code) = field 1 any s ≡ Some code.now
EnrolmentSaid s (enrolments.Intervals count) = field 1 natural s ≡ Some count
EnrolmentSaid s (enrolments.Curve row) = CurveSaid s row

-- what changes the tables, the parts of a site or the layers
abbrev pub ChangeSaid : Scene → List ℕ → Change → Type 0
ChangeSaid scene s (changes.Quarter slices) = field 1 seconds s ≡ Some slices.items
ChangeSaid scene s (changes.Emergency row) = EmergencySaid scene s row
ChangeSaid scene s (changes.Loss row) = LossSaid scene s row
ChangeSaid scene s (changes.Listed row) = ListedSaid scene s row
ChangeSaid scene s (changes.Clear table) = field 1 source s ≡ Some table
ChangeSaid scene s (changes.Bus bus) = BusSaid scene s bus
ChangeSaid scene s (changes.Adders adders) = AddersSaid scene s adders
ChangeSaid scene s (changes.Unit unit) = UnitSaid scene s unit
ChangeSaid scene s (changes.Site choice) = field 1 rule s ≡ Some choice
ChangeSaid scene s (changes.Period next) = field 1 state s ≡ Some next
ChangeSaid scene s (changes.Setting setting) = SettingSaid s setting

-- a call
abbrev pub CallSaid : Scene → List ℕ → Call → Type 0
CallSaid scene s (calls.Settle settlement) = SettlementSaid s settlement
CallSaid scene s (calls.Restate settlement) = SettlementSaid s settlement
CallSaid scene s (calls.Void slot) = SlotSaid s slot
CallSaid scene s (calls.Balance name) = PartySaid scene.parties.now 1 s name
CallSaid scene s (calls.Entry slot name) = SlotSaid s slot × PartySaid scene.parties.now 3 s name
CallSaid scene s (calls.Energy table) = field 1 source s ≡ Some table

-- the record holds what its fields say
abbrev pub Said : Scene → List ℕ → Record → Type 0
Said scene s (records.Enrolment enrolment) = EnrolmentSaid s enrolment
Said scene s (records.Change change) = ChangeSaid scene s change
Said scene s (records.Call call) = CallSaid scene s call
