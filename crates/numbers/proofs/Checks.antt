-- A table of checks gives one answer: it passes, or it refuses with one number at one place.
use Rattle.std.proofs.Common.{◌≡◌, ℕ, ◌+◌, ◌-◌, ◌<◌, List, [], ◌∷◌, sym, ◌∙◌, inl, inr, ⊎_elim, arith}
use Rattle.std.proofs.lemmas.Bool.{cases_order}
use Rattle.numbers.specs.Checks.{Each, First, Check, whole, each, Passes, Refuses, Passed, Refused, OneAnswer}

-- a refusal is no pass
refuses_not : (c : Check) (n p : ℕ) → Refuses c n p → Passes c → ⊥
refuses_not (whole number Good) n p r good = r.2 good
refuses_not (each number count Good) n p r good = r.2.1 (good (p - 1) r.2.0)

refused_not : (cs : List Check) (n p : ℕ) → Refused cs n p → Passed cs → ⊥
refused_not [] n p r passed = r
refused_not (c ∷ cs) n p (inl r) passed = refuses_not c n p r passed.0
refused_not (c ∷ cs) n p (inr r) passed = refused_not cs n p r.1 passed.1

-- there is one first offender
first_one : (Good : ℕ → Type 0) (n j k : ℕ) → First Good n j → First Good n k → j ≡ k
first_one Good n j k a b = ⊎_elim (λ e. e) (⊎_elim (λ lt. absurd (a.1 (b.2 j lt))) (λ lt. absurd (b.1 (a.2 k lt)))) (cases_order j k)

refuses_one : (c : Check) (n p m q : ℕ) → Refuses c n p → Refuses c m q → (n ≡ m) × (p ≡ q)
refuses_one (whole number Good) n p m q a b = (a.0 ∙ sym b.0, a.1 ∙ sym b.1)
refuses_one (each number count Good) n p m q a b =
    (a.0 ∙ sym b.0, omega (arith, a.1, b.1, first_one Good count (p - 1) (q - 1) a.2 b.2))

refused_one : (cs : List Check) (n p m q : ℕ) → Refused cs n p → Refused cs m q → (n ≡ m) × (p ≡ q)
refused_one [] n p m q a b = absurd a
refused_one (c ∷ cs) n p m q (inl a) (inl b) = refuses_one c n p m q a b
refused_one (c ∷ cs) n p m q (inl a) (inr b) = absurd (refuses_not c n p a b.0)
refused_one (c ∷ cs) n p m q (inr a) (inl b) = absurd (refuses_not c m q b a.0)
refused_one (c ∷ cs) n p m q (inr a) (inr b) = refused_one cs n p m q a.1 b.1

-- the first offender among n places, found at r, by its place from 1
pub first_offender : (Good : ℕ → Type 0) (n r : ℕ) → r < n → (Good r → ⊥) → Each Good r → First Good n (r + 1 - 1)
first_offender Good n r h bad before = let e : r + 1 - 1 ≡ r = omega arith in rw e (h, bad, before)

pub one_answer : (cs : List Check) (n p : ℕ) → OneAnswer cs n p
one_answer cs n p = record { blocks = refused_not cs n p; alone = λ m q. refused_one cs n p m q }
