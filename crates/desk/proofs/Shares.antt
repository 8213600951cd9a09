-- The shares of 100 over three equal loads.
use Rattle.std.proofs.Common.{◌≡◌, ℕ, ◌+◌, ◌*◌, ◌/◌, ◌%◌, ◌≤◌, true, ltb, pos, negsuc, arith}
use native.Mathlib.Nat.{div-eq_of_lt-le, div-add-mod}
use Rattle.std.proofs.lemmas.Bool.{lt-ltb}
use Rattle.numbers.specs.Signs.{signed_by}
use Rattle.sharing.specs.Running.{running, up_to}
use Rattle.sharing.specs.Leftover.{leftover, part}
use Rattle.desk.specs.Thirds.{thirds_by}

abbrev all : ℕ → ℕ
all load = ((0 + load) + load) + load

pub thirds_running : (load : ℕ) → 1 ≤ load → thirds_by running load ≡ (negsuc 66, pos 33, pos 34)
unfolding running up_to signed_by
thirds_running load lo =
    let none : 0 / all load ≡ 0 = div-eq_of_lt-le {k = 0} (all load) {m = 0} (omega arith) (omega arith) in
    let one : 100 * (0 + load) / all load ≡ 33 = div-eq_of_lt-le {k = 33} (all load) {m = 100 * (0 + load)} (omega arith) (omega arith) in
    let two : 100 * ((0 + load) + load) / all load ≡ 66 = div-eq_of_lt-le {k = 66} (all load) {m = 100 * ((0 + load) + load)} (omega arith) (omega arith) in
    let three : 100 * all load / all load ≡ 100 = div-eq_of_lt-le {k = 100} (all load) {m = 100 * all load} (omega arith) (omega arith) in
    rw (none, one, two, three)

pub thirds_leftover : (load : ℕ) → 1 ≤ load → thirds_by leftover load ≡ (negsuc 65, pos 33, pos 33)
unfolding leftover part signed_by
thirds_leftover load lo =
    let down : 100 * load / all load ≡ 33 = div-eq_of_lt-le {k = 33} (all load) {m = 100 * load} (omega arith) (omega arith) in
    let parts : all load * (100 * load / all load) + 100 * load % all load ≡ 100 * load = div-add-mod (100 * load) (all load) in
    let whole : all load * 33 + 100 * load % all load ≡ 100 * load = rw down at parts in
    let broken : ltb 0 (100 * load % all load) ≡ true = lt-ltb 0 (100 * load % all load) (omega (arith, whole)) in
    rw (down, broken)
