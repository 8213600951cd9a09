-- Party codes: 1 to 8 capitals or digits, in byte order, a prefix before what it begins.
use Rattle.std.specs.Prelude.{◌≡◌, ℕ, ◌-◌, ◌<◌, Bool, true, false, ◌&&◌, ◌||◌, ◌⊎◌, List, length, take, None, Decides, Option, ◌==◌, nat_le, slice_index}
use Rattle.std.specs.List.{list_all}
use Rattle.std.specs.Ordering.{is_lt, is_eq}
use Rattle.bounded.specs.Items.{items_of}
use Rattle.directory.specs.declared.parties.PartyCode.{PartyCode}
use Rattle.directory.specs.Orders.{by_size, by_bytes, in_turn}
use Rattle.directory.specs.Kinds.{Kind, Found}

-- what a code means: its first 8 bytes, and how many it has beyond these
abbrev pub Meaning : Type 0
Meaning = List ℕ × ℕ

-- what a text means that is handed in as a code
abbrev pub meaning_of : List ℕ → Meaning
meaning_of text = (take 8 text, length text - 8)

-- the first 8 bytes of a code, or all if it has fewer
abbrev pub text_of : PartyCode → List ℕ
text_of c = items_of c.text

-- what a code means
abbrev pub sense_of : PartyCode → Meaning
sense_of c = (text_of c, c.excess)

-- a capital or a digit
abbrev pub is_sign : ℕ → Bool
is_sign b = (nat_le 65 b && nat_le b 90) || (nat_le 48 b && nat_le b 57)

-- each byte is such a sign
abbrev pub all_signs : List ℕ → Bool
all_signs text = list_all is_sign text

-- 1 to 8 capitals or digits: there are bytes, none beyond the eighth, and each is a sign
abbrev pub is_code : Meaning → Bool
is_code m = (nat_le 1 (length m.0) && m.1 == 0) && all_signs m.0

-- the code is well-formed
abbrev pub well_formed : PartyCode → Bool
well_formed c = is_code (sense_of c)

-- parties are kept by code, at most 64
abbrev pub party_kind : Kind PartyCode Meaning
party_kind = record { key_of = sense_of; order = in_turn by_bytes by_size; formed = well_formed; most = 64 }

-- s is before t: they have their first k bytes in common, and then s ends or has the lesser byte
abbrev pub Before : List ℕ → List ℕ → Type 0
Before s t = (k : ℕ) × (take k s ≡ take k t) × (k < length t) × ((k ≡ length s) ⊎ ((k < length s) × (slice_index s k < slice_index t k)))

-- x and y stand in the byte order of their texts, a prefix before what it begins, and are the same key only where their texts are
pub record ByteOrder (x y : PartyCode) : Type 0 where
  pub below : Decides (is_lt (party_kind.order.cmp (sense_of x) (sense_of y))) (Before (text_of x) (text_of y))
  pub same : Decides (is_eq (party_kind.order.cmp (sense_of x) (sense_of y))) (text_of x ≡ text_of y)

-- well-formed codes stand in byte order
abbrev pub InByteOrder : Type 0
InByteOrder = (x y : PartyCode) → well_formed x ≡ true → well_formed y ≡ true → ByteOrder x y

-- no look-up among these codes finds one that is ill-formed
abbrev pub NoStrangers : List PartyCode → Type 0
NoStrangers codes = (c : PartyCode) → well_formed c ≡ false → (answer : Option ℕ) → Found party_kind codes (sense_of c) answer → answer ≡ None
