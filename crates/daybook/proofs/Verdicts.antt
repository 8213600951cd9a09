-- Tables of checks: one behind another, that of a setting, and that of the curves.
use Rattle.std.proofs.Common.{◌≡◌, ℕ, ◌<◌, List, [], ◌∷◌, ◌++◌, length, inl, inr, ℤ, Ok, Err, Result, OnOk, arith}
use Rattle.charges.specs.declared.setting.SettingRefusal.{SettingRefusal}
use Rattle.charges.specs.declared.table.Table.{Table}
use Rattle.charges.specs.Refusals.{number_of, place_of}
use Rattle.charges.specs.Settings.{WasSet, checks}
use Rattle.curves.specs.declared.points.SubmittedCurve.{SubmittedCurve}
use Rattle.curves.specs.Keys.{curve_kind}
use Rattle.daybook.specs.Verdicts.{curve_checks}
use Rattle.directory.specs.declared.lookup.DirectoryRefusal.{DirectoryRefusal}
use Rattle.directory.specs.Refusals as directories
use Rattle.directory.specs.Refusals.{Opened}
use Rattle.numbers.specs.Checks.{Check, Passed, Refused, Answered}

-- both pass
pub passed_both : (cs ds : List Check) → Passed cs → Passed ds → Passed (cs ++ ds)
passed_both [] ds p q = q
passed_both (c ∷ cs) ds p q = (p.0, passed_both cs ds p.1 q)

-- the first refuses
pub refused_first : (cs ds : List Check) (number place : ℕ) → Refused cs number place → Refused (cs ++ ds) number place
refused_first [] ds number place r = absurd r
refused_first (c ∷ cs) ds number place (inl r) = inl r
refused_first (c ∷ cs) ds number place (inr r) = inr (r.0, refused_first cs ds number place r.1)

-- the first passes, and the second refuses
pub refused_next : (cs ds : List Check) (number place : ℕ) → Passed cs → Refused ds number place → Refused (cs ++ ds) number place
refused_next [] ds number place p r = r
refused_next (c ∷ cs) ds number place p r = inr (p.0, refused_next cs ds number place p.1 r)

module _ (before after : Table) (resource : ℕ) (figure : ℤ) where
  -- a setting that is made
  pub made_of : (r : Result (Unit {0}) SettingRefusal) → WasSet before after resource figure r → OnOk r (WasSet before after resource figure (Ok tt))
  made_of (Ok u) set = set
  made_of (Err e) set = tt

  -- what it answers by its checks
  pub verdict_of : (r : Result (Unit {0}) SettingRefusal) → WasSet before after resource figure r → Answered (checks before resource figure) number_of place_of (λ u. Unit {0}) r
  verdict_of (Ok u) set = (set.0, tt)
  verdict_of (Err e) set = set.0

-- what follows from what holds where nothing is refused
pub on_ok : {P Q : Type 0} (r : Result (Unit {0}) SettingRefusal) → (P → Q) → OnOk r P → OnOk r Q
on_ok (Ok u) f p = f p
on_ok (Err e) f p = tt

-- curves that there are have the checks of a directory
pub checked_curves : {D : Type 0} (records_of : D → List SubmittedCurve) (curves : List SubmittedCurve) (r : Result D DirectoryRefusal) → 0 < length curves → Opened curve_kind curves records_of r → Answered (curve_checks curves) directories.number_of directories.place_of (λ d. records_of d ≡ curves) r
checked_curves records_of [] r some opened = absurd (omega (arith, some))
checked_curves records_of (curve ∷ curves) r some opened = opened
