-- The test of a submitted row says whether it is sound.
use Rattle.std.proofs.Common.{◌≡◌, ℕ, zero, suc, ◌-◌, ◌<◌, ◌≤◌, Bool, true, false, ◌||◌, leb, List, ℤ, pos, negsuc, ◌≤ℤ◌, ◌<ℤ◌, Decides, refl, arith}
use borrow.Author.Differences.{ints}
use lib.Signed.{lt_z, le_z}
use Rattle.std.proofs.lemmas.Bool.Decides.{Decides-and, Decides-like, Decides-below_and, nat_tests}
use Rattle.curves.specs.declared.points.Point.{Point}
use Rattle.curves.specs.declared.points.SubmittedCurve.{SubmittedCurve}
use Rattle.curves.specs.Shape.{at}
use Rattle.numbers.specs.Checks.{Each, Passed, Refused}
use Rattle.numbers.proofs.Checks.{one_answer}
use Rattle.curves.specs.Submission.{listed, PowerIn, PriceIn, GoodPower, GoodPrice, checks}
use Rattle.curves.specs.Acceptance.{power_in, price_in, power_fits, price_fits, every, accepted}

le_z_says : (x y : ℤ) → Decides (le_z x y) (x ≤ℤ y)
le_z_says x y = (λ e. grind (arith, ints), λ h. grind (arith, ints))

lt_z_says : (x y : ℤ) → Decides (lt_z x y) (x <ℤ y)
lt_z_says x y = (λ e. grind (arith, ints), λ h. grind (arith, ints))

leb_says : (m n : ℕ) → Decides (leb m n) (m ≤ n)
leb_says m n = (λ e. grind (arith, nat_tests), λ h. grind (arith, nat_tests))

-- of a place that has one before it
after_first : {P : Type 0} (k : ℕ) (r : Bool) → Decides r P → Decides (leb k 0 || r) (0 < k → P)
after_first zero r d = (λ e h. absurd (omega arith), λ h. refl)
after_first (suc k) r d = let e : leb (suc k) 0 ≡ false = grind (arith, nat_tests) in (λ t h. d.0 (rw e at t), λ h. rw e (d.1 (h (omega arith))))

power_says : (x : ℤ) → Decides (power_in x) (PowerIn x)
power_says x = Decides-and _ _ (le_z_says (negsuc 1999999) x) (le_z_says x (pos 2000000))

price_says : (x : ℤ) → Decides (price_in x) (PriceIn x)
price_says x = Decides-and _ _ (le_z_says (negsuc 24999) x) (le_z_says x (pos 1000000))

powers_say : (ps : List Point) (n : ℕ) → Decides (every (power_fits ps) n) (Each (GoodPower ps) n)
powers_say ps n = Decides-below_and (power_fits ps) (GoodPower ps) (every (power_fits ps))
    (λ k. Decides-and _ _ (power_says (at ps k).power) (after_first k _ (lt_z_says (at ps (k - 1)).power (at ps k).power))) refl (λ _. refl) n

prices_say : (ps : List Point) (n : ℕ) → Decides (every (price_fits ps) n) (Each (GoodPrice ps) n)
prices_say ps n = Decides-below_and (price_fits ps) (GoodPrice ps) (every (price_fits ps))
    (λ k. Decides-and _ _ (price_says (at ps k).price) (after_first k _ (le_z_says (at ps (k - 1)).price (at ps k).price))) refl (λ _. refl) n

pub accepted_says : (row : SubmittedCurve) → Decides (accepted row) (Passed (checks row))
unfolding accepted
accepted_says row =
    Decides-like _
    (λ p. (p.0, (p.1.0, (p.1.1.0, ((p.1.1.1.0.0, p.1.1.1.0.1, p.1.1.1.1), tt)))))
    (λ s. (s.0, (s.1.0, (s.1.1.0, ((s.1.1.1.0.0, s.1.1.1.0.1), s.1.1.1.0.2)))))
    (Decides-and _ _ (Decides-and _ _ (leb_says 1 row.count) (leb_says row.count 10))
    (Decides-and _ _ (powers_say (listed row) row.count)
    (Decides-and _ _ (prices_say (listed row) row.count)
    (Decides-and _ _ (Decides-and _ _ (power_says row.lsl) (power_says row.hsl)) (le_z_says row.lsl row.hsl)))))

-- a row that a check refuses is not accepted
pub refused_not : (row : SubmittedCurve) (number place : ℕ) → Refused (checks row) number place → accepted row ≡ false
refused_not row number place h = not_so (accepted row) (λ e. (one_answer (checks row) number place).blocks h ((accepted_says row).0 e))
  where
    not_so : (b : Bool) → (b ≡ true → ⊥) → b ≡ false
    not_so true k = absurd (k refl)
    not_so false k = refl
