use Rattle.std.proofs.Common.{rules, ◌≡◌, min, pos, w64, to_z, of_z, refl, subst}
use Rattle.charges.specs.Settings.{WasSet}
use Rattle.daybook.proofs.Verdicts.{made_of, verdict_of, on_ok}
use Rattle.daybook.proofs.tables.Layers.set.Goals as goal

denied : (c : goal.After-deny) → WasSet c.args.self.now.denial.table c.deny.new.self.table (min c.in-Deny.resource 65535) (pos 0) c.deny.result
denied c =
    let held : c.held.result ≡ min c.in-Deny.resource 65535 = search rules in
    subst (λ r. WasSet c.args.self.now.denial.table c.deny.new.self.table r (pos 0) c.deny.result) held c.deny.ensures.table

pub returns-in-Deny-clause-made : goal.returns-in-Deny-clause-made
returns-in-Deny-clause-made c = rw c.in-Deny.is (on_ok c.deny.result (λ set. (refl, set, refl)) (made_of c.args.self.now.denial.table c.deny.new.self.table (min c.in-Deny.resource 65535) (pos 0) c.deny.result (denied c)))

pub returns-in-Deny-clause-verdict : goal.returns-in-Deny-clause-verdict
returns-in-Deny-clause-verdict c = rw c.in-Deny.is (verdict_of c.args.self.now.denial.table c.deny.new.self.table (min c.in-Deny.resource 65535) (pos 0) c.deny.result (denied c))

adjusted : (c : goal.After-set) → WasSet c.args.self.now.adjustment.table c.set.new.self.table (min c.in-Adjust.resource 65535) c.in-Adjust.figure c.set.result
adjusted c =
    let held : c.held-in-Adjust.result ≡ min c.in-Adjust.resource 65535 = search rules in
    let whole : to_z w64 (of_z w64 c.in-Adjust.figure) ≡ c.in-Adjust.figure = search rules in
    subst (λ f. WasSet c.args.self.now.adjustment.table c.set.new.self.table (min c.in-Adjust.resource 65535) f c.set.result) whole
    (subst (λ r. WasSet c.args.self.now.adjustment.table c.set.new.self.table r (to_z w64 (of_z w64 c.in-Adjust.figure)) c.set.result) held c.set.ensures.table)

pub returns-in-Adjust-clause-made : goal.returns-in-Adjust-clause-made
returns-in-Adjust-clause-made c = rw c.in-Adjust.is (on_ok c.set.result (λ set. (refl, refl, set)) (made_of c.args.self.now.adjustment.table c.set.new.self.table (min c.in-Adjust.resource 65535) c.in-Adjust.figure c.set.result (adjusted c)))

pub returns-in-Adjust-clause-verdict : goal.returns-in-Adjust-clause-verdict
returns-in-Adjust-clause-verdict c = rw c.in-Adjust.is (verdict_of c.args.self.now.adjustment.table c.set.new.self.table (min c.in-Adjust.resource 65535) c.in-Adjust.figure c.set.result (adjusted c))
