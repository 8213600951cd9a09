-- The rows that tell the shares: what a turn of the loop writes, and that a listed source takes them.
use Rattle.std.proofs.Common.{◌≡◌, ℕ, zero, suc, ◌+◌, ◌<◌, ◌≤◌, false, ◌||◌, ltb, List, [], ◌∷◌, length, map, get_or, take, set, ◌++◌, ℤ, nat_abs, Ok, refl, ap, add-one, arith}
use Rattle.std.specs.List.{AllByRecursion, zip}
use Rattle.std.proofs.lemmas.Bool.{or_parts, le-ltb}
use Rattle.std.proofs.lemmas.List.Elements.{All-from_recursion}
use Rattle.numbers.specs.Ranges.{Small}
use Rattle.charges.specs.declared.listed.ListedRow.{ListedRow}
use Rattle.charges.specs.Listed.{listed_line}
use Rattle.sites.specs.declared.site.SiteUnit.{SiteUnit}
use Rattle.sites.specs.Refusals.{unit_strays, units_stray}
use Rattle.sites.specs.Sites.{row_of, written, Accepted}

-- one row more
pub written_more : (us : List SiteUnit) (ss : List ℤ) (rows : List ListedRow) (i : ℕ) (u : SiteUnit) (s : ℤ) → i < length us → i < length ss → i < length rows →
    set (written (take i us) (take i ss) rows) i (row_of (get_or us i u) (get_or ss i s)) ≡ written (take (i + 1) us) (take (i + 1) ss) rows
written_more [] ss rows i u s hu hs hr = absurd (omega arith)
written_more (x ∷ us) [] rows i u s hu hs hr = absurd (omega arith)
written_more (x ∷ us) (y ∷ ss) [] i u s hu hs hr = absurd (omega arith)
written_more (x ∷ us) (y ∷ ss) (r ∷ rows) zero u s hu hs hr = refl
written_more (x ∷ us) (y ∷ ss) (r ∷ rows) (suc i) u s hu hs hr =
    let more = written_more us ss rows i u s (omega arith) (omega arith) (omega arith) in
    rw add-one (ap (λ l. row_of x y ∷ l) (rw add-one at more))

-- a row that a listed source takes as it stands
abbrev Taken : ListedRow → Type 0
Taken row = (line : ℕ) → listed_line line row ≡ Ok (row.resource, row.party, row.amount)

row_taken : (u : SiteUnit) (s : ℤ) → unit_strays u ≡ false → nat_abs s ≤ 3000000000 → Taken (row_of u s)
row_taken u s good small line =
    let p = or_parts (ltb u.resource 1 || ltb 9999 u.resource) (ltb 500000 u.reading) good in
    rw (p.0, le-ltb 3000000000 (nat_abs s) small)

all_taken : (us : List SiteUnit) (ss : List ℤ) (rest : List ListedRow) → length ss ≡ length us → units_stray us ≡ false → Small 3000000000 (length us) ss →
    AllByRecursion Taken (take (length us) (map (λ p. row_of p.0 p.1) (zip us ss) ++ rest))
all_taken [] ss rest many good small = tt
all_taken (u ∷ us) [] rest many good small = absurd (omega arith)
all_taken (u ∷ us) (s ∷ ss) rest many good small =
    let p = or_parts (unit_strays u) (units_stray us) good in
    (row_taken u s p.0 (small 0 (omega arith)), all_taken us ss rest (omega arith) p.1 (λ k h. small (suc k) (omega arith)))

pub accepted : (us : List SiteUnit) (ss : List ℤ) (rows : List ListedRow) → length ss ≡ length us → units_stray us ≡ false → Small 3000000000 (length us) ss → Accepted (length us) (written us ss rows)
accepted us ss rows many good small = All-from_recursion Taken _ (all_taken us ss _ many good small)
