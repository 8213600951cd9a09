-- The number and the place of each refusal, what it carries, and what a call answers by the law's words.
use Rattle.std.specs.Prelude.{ℕ, ◌≤◌, ℤ, Some, None, Ok, Err, Option, Result}
use Rattle.walk.specs.declared.flaw.Flaw.{Flaw}
use Rattle.walk.specs.declared.flaw.Flaw.TheVariants as flaws
use Rattle.law.specs.Steps.{Carried, Answer, accepted, refused, balance_is, Finding, clear, raises}
use Rattle.assess.specs.declared.refusals.Refusal.{Refusal}
use Rattle.assess.specs.declared.refusals.Refusal.TheVariants.{Size, NoSlot, LoadCount, Load, Standing, ManyLines, Faulty, Unfit, Total, NoLoad, NoParty}
use Rattle.assess.specs.declared.refusals.SlotFlaw.{SlotFlaw}

-- a refusal's number
abbrev pub number_of : Refusal → ℕ
number_of Size = 61
number_of NoSlot = 31
number_of LoadCount = 32
number_of (Load p) = 32
number_of Standing = 33
number_of ManyLines = 34
number_of (Faulty t i n f) = 35
number_of (Unfit n) = 36
number_of Total = 37
number_of NoLoad = 38
number_of NoParty = 39

-- its place
abbrev pub place_of : Refusal → ℕ
place_of Size = 0
place_of NoSlot = 0
place_of LoadCount = 0
place_of (Load p) = p
place_of Standing = 0
place_of ManyLines = 0
place_of (Faulty t i n f) = n
place_of (Unfit n) = n
place_of Total = 0
place_of NoLoad = 0
place_of NoParty = 0

-- a refusal for a fault carries the slot, and the fault whole
abbrev pub carries : Refusal → Option Carried
carries Size = None
carries NoSlot = None
carries LoadCount = None
carries (Load p) = None
carries Standing = None
carries ManyLines = None
carries (Faulty t i n f) = Some (record { type = t; interval = i; fault = f })
carries (Unfit n) = None
carries Total = None
carries NoLoad = None
carries NoParty = None

-- a refusal for a load names the party, so that it is told apart from one for their number
abbrev pub NamesParty : Refusal → Type 0
NamesParty Size = Unit {0}
NamesParty NoSlot = Unit {0}
NamesParty LoadCount = Unit {0}
NamesParty (Load p) = 1 ≤ p
NamesParty Standing = Unit {0}
NamesParty ManyLines = Unit {0}
NamesParty (Faulty t i n f) = Unit {0}
NamesParty (Unfit n) = Unit {0}
NamesParty Total = Unit {0}
NamesParty NoLoad = Unit {0}
NamesParty NoParty = Unit {0}

-- the refusal for a flaw of the lines that are settled in a slot
abbrev pub refused_flaw : ℕ → ℕ → Flaw → Refusal
refused_flaw t i flaws.ManyLines = ManyLines
refused_flaw t i (flaws.Faulty n f) = Faulty t i n f
refused_flaw t i (flaws.Unfit n) = Unfit n

-- the same of a flaw with its slot
abbrev pub refusal_for : SlotFlaw → Refusal
refusal_for f = refused_flaw f.charge_type f.interval f.flaw

-- what a check of the code finds
abbrev pub raised : {X : Type 0} → Result X Refusal → Finding
raised (Ok x) = clear
raised (Err e) = raises (number_of e) (place_of e) (carries e)

-- a call's answer by the law's words: of a call that changes the book, of a balance, of an entry
abbrev pub said : {X : Type 0} → Result X Refusal → Answer
said (Ok x) = accepted
said (Err e) = refused (number_of e) (place_of e) (carries e)

-- of a balance
abbrev pub said_balance : Result ℤ Refusal → Answer
said_balance (Ok v) = balance_is v
said_balance (Err e) = refused (number_of e) (place_of e) (carries e)
