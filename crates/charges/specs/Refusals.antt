-- How a setting is refused.
use Rattle.std.specs.Prelude.{ℕ, ◌≤◌, ℤ, unsigned_abs}
use Rattle.charges.specs.declared.setting.SettingRefusal.{SettingRefusal}
use Rattle.charges.specs.declared.setting.SettingRefusal.TheVariants.{Outside, Full}

-- a resource's number, and a figure in cents, within their ranges
abbrev pub InRange : ℕ → ℤ → Type 0
InRange r f = (1 ≤ r) × (r ≤ 9999) × (unsigned_abs f ≤ 1000000000)

-- a refusal's number
abbrev pub number_of : SettingRefusal → ℕ
number_of Outside = 46
number_of Full = 45

-- its place: a setting has none
abbrev pub place_of : SettingRefusal → ℕ
place_of Outside = 0
place_of Full = 0
