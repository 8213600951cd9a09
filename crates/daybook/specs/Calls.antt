-- What the calls of a day ask of the book.
use Rattle.std.specs.Prelude.{◌≡◌, ℕ, ◌<◌, ◌≤◌, List, ◌∷◌, length, map, take, slice_index, min, sum, ℤ, pos, Ok, Err, Result}
use Rattle.assess.specs.declared.refusals.Refusal.{Refusal}
use Rattle.assess.specs.Refusals.{number_of, place_of, carries}
use Rattle.book.specs.declared.ledger.Book.{Book}
use Rattle.book.specs.Books.{brought, Moves}
use Rattle.charges.specs.Adjustment.{adjusted_lines}
use Rattle.charges.specs.Denial.{denied_lines}
use Rattle.charges.specs.Energy.{energy_of}
use Rattle.charges.specs.Layers.{resting}
use Rattle.charges.specs.Lines.{Line, line_at}
use Rattle.charges.specs.Listed.{listed_line}
use Rattle.charges.specs.Period.{period_lines}
use Rattle.charges.specs.Rows.{numbered}
use Rattle.charges.specs.Settings.{held_by}
use Rattle.curves.specs.declared.points.SubmittedCurve.{SubmittedCurve}
use Rattle.day.specs.declared.records.Settlement.{Settlement}
use Rattle.day.specs.declared.records.SlotName.{SlotName}
use Rattle.day.specs.declared.records.SourceName.{SourceName}
use Rattle.day.specs.declared.records.SourceName.TheVariants as sources
use Rattle.daybook.specs.declared.ledger.Mode.{Mode}
use Rattle.daybook.specs.declared.ledger.Mode.TheVariants as modes
use Rattle.daybook.specs.declared.ledger.Posted.{Posted}
use Rattle.daybook.specs.declared.notdone.NotDone.{NotDone}
use Rattle.daybook.specs.declared.notdone.NotDone.TheVariants.{Malformed, Refused, Memory}
use Rattle.daybook.specs.declared.tables.Layers.{Layers}
use Rattle.daybook.specs.declared.tables.Tables.{Tables}
use Rattle.daybook.specs.Told.{told, told_of}
use Rattle.law.specs.Settlements as words
use Rattle.law.specs.Settlements.{Entries, zeros, over}
use Rattle.law.specs.Steps.{Call, Answer, accepted, refused, balance_is, entry_is, settle, restate, look, answer}
use Rattle.losses.specs.Lines.{loss_line, loss_basis}
use Rattle.quarters.specs.Quarters.{slices_of}
use Rattle.readers.specs.Emergency.{emergency_line, emergency_basis}
use Rattle.sharing.specs.Choice.{chosen}
use Rattle.walk.specs.Totals.{total_of}

-- the lines of the table of that name; of too many emergency rows, one more than a call may take
abbrev pub table_lines : SourceName → Tables → List SubmittedCurve → List Line
table_lines sources.Emergency tables curves = numbered (emergency_line (slices_of tables.emergency_quarter) curves) 1 (take 257 tables.emergency.items)
table_lines sources.Loss tables curves = numbered loss_line 1 tables.losses.items
table_lines sources.Listed tables curves = numbered listed_line 1 tables.listed.items

-- the kWh that each of these lines rests on
abbrev pub table_bases : SourceName → Tables → List SubmittedCurve → List ℕ
table_bases sources.Emergency tables curves = map (emergency_basis (slices_of tables.emergency_quarter) curves) (take 257 tables.emergency.items)
table_bases sources.Loss tables curves = map loss_basis tables.losses.items
table_bases sources.Listed tables curves = map (λ row. 0) tables.listed.items

-- lines under the layers: the adjustment first, the denial over it, the period on top
abbrev pub under_layers : Layers → List Line → List Line
under_layers layers ls = period_lines layers.state (denied_lines (held_by layers.denial.table) (adjusted_lines (held_by layers.adjustment.table) ls))

-- the kWh that line n rests on under the layers, where the lines below rest on these: none where the adjustment makes a fault of it
abbrev pub basis_under : Layers → List Line → List ℕ → ℕ → ℕ
basis_under layers ls bases n = resting (line_at (adjusted_lines (held_by layers.adjustment.table) ls) n) (slice_index (0 ∷ bases) n)

-- emergency rows are worked out, which needs memory; the other tables need none
abbrev pub NeedsMemory : SourceName → Type 0
NeedsMemory sources.Emergency = Unit {0}
NeedsMemory _ = ⊥

-- An energy is the sum of what the lines rest on; of too many lines it is refused. Memory is short only where this holds.
abbrev pub EnergyTold : Type 0 → List Line → (ℕ → ℕ) → Result ℕ NotDone → Type 0
EnergyTold Short ls basis (Ok kwh) = (length ls ≤ 256) × (kwh ≡ energy_of ls basis)
EnergyTold Short ls basis (Err (Refused r)) = (256 < length ls) × (r ≡ told 34 0)
EnergyTold Short ls basis (Err (Malformed k)) = ⊥
EnergyTold Short ls basis (Err Memory) = Short

-- that of a table under the layers
abbrev pub DayEnergy : SourceName → Tables → List SubmittedCurve → Result ℕ NotDone → Type 0
DayEnergy name tables curves result = EnergyTold (NeedsMemory name) (under_layers tables.layers (table_lines name tables curves)) (basis_under tables.layers (table_lines name tables curves) (table_bases name tables curves)) result

-- the number of a slot's charge type as the book takes it, in 8 bits
abbrev pub type_in : SlotName → ℕ
type_in slot = min slot.charge_type 255

-- what a settlement or a restatement of these lines asks of the book
abbrev pub asked_over : Mode → Settlement → List Line → Call
asked_over modes.Settle settlement ls = settle (type_in settlement.slot) settlement.slot.interval (brought settlement.loads.items ls (chosen settlement.rule))
asked_over modes.Restate settlement ls = restate (type_in settlement.slot) settlement.slot.interval (brought settlement.loads.items ls (chosen settlement.rule))

-- the lines that a settlement is over: those of its table, under the layers
abbrev pub settled_lines : Settlement → Tables → List SubmittedCurve → List Line
settled_lines settlement tables curves = under_layers tables.layers (table_lines settlement.source tables curves)

-- what it asks over these
abbrev pub asked : Mode → Settlement → Tables → List SubmittedCurve → Call
asked mode settlement tables curves = asked_over mode settlement (settled_lines settlement tables curves)

-- what a settlement over these lines posts: how many they are, T, and the total load
abbrev pub posted_over : Settlement → List Line → Posted
posted_over settlement ls = record { lines = length ls; paid = total_of ls; load = sum settlement.loads.items }

-- what a book answers to a party's entry that is asked for; zeros where it refuses
abbrev pub entries_told : Answer → Entries
entries_told (entry_is stands entries) = entries
entries_told accepted = zeros
entries_told (refused number place carried) = zeros
entries_told (balance_is v) = zeros

-- what it answers to that of this slot and party
abbrev pub told_at : words.Book → (charge_type interval party : ℕ) → Entries
told_at b charge_type interval party = entries_told (answer b (look charge_type interval party))

-- what it answers as paid, added up over as many parties as a book may have
unfoldable pub paid_in : words.Book → (charge_type interval : ℕ) → ℤ
paid_in b charge_type interval = over 64 (λ party. (told_at b charge_type interval party).paid)

-- and as loads
unfoldable pub load_in : words.Book → (charge_type interval : ℕ) → ℤ
load_in b charge_type interval = over 64 (λ party. pos (told_at b charge_type interval party).load)

-- The book refused the call, which is told; or memory was short, and then this holds.
abbrev pub NotTaken : Type 0 → Book → Call → NotDone → Book → Type 0
NotTaken Short b call (Refused r) c = (refusal : Refusal) × (r ≡ told_of refusal) × Moves b call (refused (number_of refusal) (place_of refusal) (carries refusal)) c
NotTaken Short b call (Malformed k) c = ⊥
NotTaken Short b call Memory c = Short

-- The book took the call, or did not; where memory was short it was not asked, which may be only where this holds.
abbrev pub Posts : {A : Type 0} → Type 0 → Book → Call → Result A NotDone → Book → Type 0
Posts Short b call (Ok x) c = Moves b call accepted c
Posts Short b call (Err e) c = NotTaken (Short × (c ≡ b)) b call e c
