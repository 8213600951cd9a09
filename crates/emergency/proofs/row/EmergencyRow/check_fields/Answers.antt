use Rattle.std.proofs.Common.{◌≡◌, ℕ, false, ◌||◌, ltb, rules, cond, Some, None, pos, negsuc, length, take, ◌∙◌}
use Rattle.quarters.specs.Quarters.{slices_of}
use Rattle.emergency.specs.declared.row.EmergencyRow.{EmergencyRow}
use Rattle.emergency.specs.declared.row.Field.TheVariants.{Cap}
use Rattle.emergency.specs.Fields.{bad_field}
use Rattle.numbers.specs.Ranges.{outside, strays}
use Rattle.emergency.proofs.row.EmergencyRow.check_fields.Goals as goal

-- where the other fields are in their limits, the cap decides
cap_left : (m : ℕ) (row : EmergencyRow) → (ltb row.resource 1 || ltb 9999 row.resource) ≡ false → outside (negsuc 99999) (pos 1000000) row.spp ≡ false → ltb 500000 row.generation ≡ false
    → outside (negsuc 499999) (pos 0) row.charging ≡ false → strays (negsuc 1999999) (pos 2000000) (take m row.bases) ≡ false → (ltb row.hour 1 || ltb 25 row.hour) ≡ false
    → bad_field m row ≡ cond (outside (pos 0) (pos 1000000) row.cap) (Some Cap) None
unfolding bad_field
cap_left m row resource spp generation charging near hour = rw (resource, spp, generation, charging, near, hour)

pub returns-then-not-contains-5 : goal.returns-then-not-contains-5
returns-then-not-contains-5 c =
    cap_left (length (slices_of c.args.quarter.now)) c.args.self.now (search rules) (search rules) (search rules) (search rules) (search rules) (search rules) ∙ search rules

pub returns : goal.returns
returns c =
    cap_left (length (slices_of c.args.quarter.now)) c.args.self.now (search rules) (search rules) (search rules) (search rules) (search rules) (search rules) ∙ search rules
