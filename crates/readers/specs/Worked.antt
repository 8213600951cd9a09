-- A row that is worked out keeps within the limits of lines. Proved here.
use Rattle.std.specs.Prelude.{◌≡◌, ℕ, ◌≤◌, Ok, Err, unsigned_abs, refl}
use Rattle.std.specs.Result.{ForOk, ForErr}
use Rattle.std.proofs.Common.{subst}
use Rattle.charges.specs.Lines.{Entry, Line, Ranged, Based}

-- an entry within the limits
abbrev pub Payable : Entry → Type 0
Payable e = (1 ≤ e.0) × (e.0 ≤ 9999) × (unsigned_abs e.2 ≤ 3000000000)

-- what a line's limits say, as facts of its cases, and back
pub cased_ranged : (line : Line) → Ranged line → ForOk line Payable
cased_ranged line h e is = subst Ranged is h

pub cased_based : (line : Line) (basis : ℕ) → Based line basis → ForOk line (λ _. basis ≤ 1000000) × ForErr line (λ _. basis ≡ 0)
cased_based line basis h = (λ e is. subst (λ l. Based l basis) is h, λ f is. subst (λ l. Based l basis) is h)

pub worked_ranged : (line : Line) → ForOk line Payable → Ranged line
worked_ranged (Ok e) h = h e refl
worked_ranged (Err f) h = tt

pub worked_based : (line : Line) (basis : ℕ) → ForOk line (λ _. basis ≤ 1000000) → ForErr line (λ _. basis ≡ 0) → Based line basis
worked_based (Ok e) basis h k = h e refl
worked_based (Err f) basis h k = k f refl
