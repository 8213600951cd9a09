-- The law over runs: what holds of every book after any list of calls.
use Rattle.std.specs.Prelude.{◌≡◌, ℕ, ◌<◌, Bool, true, false, cond, ◌&&◌, List, [], ◌∷◌, map, ℤ, pos, ◌+ℤ◌, ◌*ℤ◌, ◌≤ℤ◌, is_some, Some, None, Option, ◌==◌}
use Rattle.charges.specs.Lines.{Line}
use Rattle.law.specs.Settlements.{Among, Settlement, Book, posted, over, over_slots, SlotOf, apart, all_load, load_of, paid_out, source_lines, charge_of}
use Rattle.law.specs.Steps.{Call, settle, restate, void, balance, look, Carried, Answer, accepted, refused, balance_is, entry_is, answer, BringsLawful, Step, Fresh}

-- A call with the answer that it got.
pub record Met : Type 0 where
  pub call : Call
  pub got : Answer

-- The call was accepted and changed what stands.
abbrev pub took : Answer → Bool
took accepted = true
took (refused number place carried) = false
took (balance_is v) = false
took (entry_is stands e) = false

-- The call is about the slot (t, i).
abbrev pub about : Call → ℕ → ℕ → Bool
about (settle u j s) t i = t == u && i == j
about (restate u j s) t i = t == u && i == j
about (void u j) t i = t == u && i == j
about (balance p) t i = false
about (look u j p) t i = false

-- What the slot's standing settlement is after the call.
abbrev pub brings : Call → Option Settlement
brings (settle u j s) = Some s
brings (restate u j s) = Some s
brings (void u j) = None
brings (balance p) = None
brings (look u j p) = None

-- The standing settlement of a slot, by the list of calls and answers alone: the last accepted call about the slot decides. The list has the latest call first.
abbrev pub standing : List Met → ℕ → ℕ → Option Settlement
standing [] t i = None
standing (m ∷ met) t i = cond (took m.got && about m.call t i) (brings m.call) (standing met t i)

-- From the book `start` these calls, the latest first, lead to the book b, each finding it as the one before left it.
abbrev pub Leads : Book → List Met → Book → Type 0
Leads start [] b = b ≡ start
Leads start (m ∷ met) b = (before : Book) × Leads start met before × Step before m.call m.got b

-- A book opened fresh that met these calls.
pub record Run (parties intervals : ℕ) (met : List Met) (b : Book) : Type 0 where
  pub start : Book
  pub fresh : Fresh parties intervals start
  pub leads : Leads start met b

-- A book opened fresh that met these calls, the latest first, and answered each as it does.
pub record MetCalls (parties intervals : ℕ) (calls : List Call) (b : Book) : Type 0 where
  pub met : List Met
  pub run : Run parties intervals met b
  pub those : map (λ m. m.call) met ≡ calls

-- A party's source lines and charge in a standing settlement, 0 where none stands.
abbrev pub due : ℕ → Option Settlement → ℤ
due p None = pos 0
due p (Some s) = source_lines s p +ℤ charge_of s p

-- The same over all standing settlements.
abbrev pub owed : ℕ → List Met → ℕ → ℤ
owed intervals met p = over_slots intervals (λ t i. due p (standing met t i))

-- 1 where a settlement stands.
abbrev pub one_if : Option Settlement → ℤ
one_if None = pos 0
one_if (Some s) = pos 1

-- How many settlements stand.
abbrev pub how_many : ℕ → List Met → ℤ
how_many intervals met = over_slots intervals (λ t i. one_if (standing met t i))

-- The balance that an answer gives.
abbrev pub balance_told : Answer → ℤ
balance_told accepted = pos 0
balance_told (refused number place carried) = pos 0
balance_told (balance_is v) = v
balance_told (entry_is stands e) = pos 0

-- What a call asks but for the sharing rule.
pub data Plain : Type 0 where
  settles : (type interval : ℕ) → List ℕ → List Line → Plain
  restates : (type interval : ℕ) → List ℕ → List Line → Plain
  voids : (type interval : ℕ) → Plain
  asks : (party : ℕ) → Plain
  looks : (type interval party : ℕ) → Plain

-- A call without its sharing rule.
abbrev pub plain : Call → Plain
plain (settle t i s) = settles t i s.loads s.lines
plain (restate t i s) = restates t i s.loads s.lines
plain (void t i) = voids t i
plain (balance p) = asks p
plain (look t i p) = looks t i p

-- An answer but for the amounts: a refusal with all that it tells.
pub data Verdict : Type 0 where
  accepts : Verdict
  refuses : (number place : ℕ) → Option Carried → Verdict
  answers : Verdict

-- An answer without its amounts.
abbrev pub verdict : Answer → Verdict
verdict accepted = accepts
verdict (refused number place carried) = refuses number place carried
verdict (balance_is v) = answers
verdict (entry_is stands e) = answers

-- Balances. The balances of all parties, as balance answers them, add up to zero. Each is the sum, over the standing settlements, of the party's source lines and charges.
pub record Balanced (parties intervals : ℕ) (met : List Met) (b : Book) : Type 0 where
  pub each : (p : ℕ) → Among p parties → answer b (balance p) ≡ balance_is (owed intervals met p)
  pub zero_sum : over parties (λ p. balance_told (answer b (balance p))) ≡ pos 0

-- Cents. In each standing settlement with load, each party's charge, as the book keeps it, differs by less than one cent from its exact load share of what was paid out.
abbrev pub WithinACent : ℕ → List Met → Book → Type 0
WithinACent parties met b = (t i : ℕ) (s : Settlement) → standing met t i ≡ Some s → 0 < all_load s → (p : ℕ) → Among p parties → apart ((b.keeps t i p).charged *ℤ pos (all_load s)) (paid_out s *ℤ pos (load_of s p)) < all_load s

-- Any rules. A second book that met the same list with other sharing rules accepts the same calls, refuses the rest with the same number, place and fault, and no party's two balances differ by more than one cent for each standing settlement.
pub record Alike (parties intervals : ℕ) (met : List Met) (b : Book) (met' : List Met) (b' : Book) : Type 0 where
  pub same_verdicts : map (λ m. verdict m.got) met ≡ map (λ m. verdict m.got) met'
  pub near : (p : ℕ) → Among p parties → pos (apart (balance_told (answer b (balance p))) (balance_told (answer b' (balance p)))) ≤ℤ how_many intervals met

-- Entries. What stands is what the list says: of each slot and party, entry answers whether a settlement stands, and what that posts for the party; zeros where none stands.
abbrev pub Entered : (parties intervals : ℕ) → List Met → Book → Type 0
Entered parties intervals met b = (t i p : ℕ) → SlotOf intervals t i → Among p parties → answer b (look t i p) ≡ entry_is (is_some (standing met t i)) (posted (standing met t i) p)

-- The law of a book after a list of calls: its three parts, and that its entries are those of what stands.
pub record Law (parties intervals : ℕ) (met : List Met) (b : Book) : Type 0 where
  pub entered : Entered parties intervals met b
  pub balanced : Balanced parties intervals met b
  pub cents : WithinACent parties met b
  pub any_rules : (met' : List Met) (b' : Book) → Run parties intervals met' b' → map (λ m. plain m.call) met ≡ map (λ m. plain m.call) met' → Alike parties intervals met b met' b'

-- After any number of settle, restate, void, balance and look in any order, refused ones among them.
abbrev pub RunLaw : Type 0
RunLaw = (parties intervals : ℕ) (met : List Met) (b : Book) → Run parties intervals met b → Law parties intervals met b

-- The same of one book, at the start: what the call that opens a book promises of it.
pub record Opened (parties intervals : ℕ) (b : Book) : Type 0 where
  pub fresh : Fresh parties intervals b
  pub law : (met : List Met) (after : Book) → Leads b met after → Law parties intervals met after

-- Two books agree on every slot and party of theirs.
pub record Agree (b b' : Book) (parties intervals : ℕ) : Type 0 where
  pub stands : (t i : ℕ) → SlotOf intervals t i → b.stands t i ≡ b'.stands t i
  pub keeps : (t i p : ℕ) → SlotOf intervals t i → Among p parties → b.keeps t i p ≡ b'.keeps t i p

-- Every call on every book has a step: the law is not empty.
abbrev pub StepExists : Type 0
StepExists = (b : Book) (c : Call) → BringsLawful c → (after : Book) × Step b c (answer b c) after

-- And one only: what a call answers and leaves depends on its meaning alone.
abbrev pub StepOne : Type 0
StepOne = (b x y : Book) (c : Call) (a a' : Answer) → Step b c a x → Step b c a' y → (a ≡ a') × Agree x y b.parties b.intervals
