-- The order of well-formed codes in the words of their texts, and why no ill-formed code is found.
use Rattle.std.proofs.Common.{◌≡◌, ℕ, zero, suc, ◌-◌, ◌<◌, true, List, [], ◌∷◌, take, Some, None, Ordering, Less, Equal, Greater, sym, refl, ap, ◌∙◌, subst, inl, inr, ⊎_elim, arith}
use Rattle.std.specs.Cmp.{ranks, nat_cmp_total, Equal-is}
use Rattle.std.specs.Ordering.{is_lt, is_eq, ordering_then, MatchOrdering, nat_cmp}
use Rattle.std.proofs.lemmas.Bool.{false≢true, both_ways, and_parts, eqb-true, lt-ltb}
use Rattle.std.proofs.lemmas.Cmp.{tied_itself}
use Rattle.numbers.specs.Checks.{Passed}
use Rattle.directory.specs.declared.parties.PartyCode.{PartyCode}
use Rattle.directory.specs.Orders.{by_bytes, compared}
use Rattle.directory.specs.Refusals.{checks}
use Rattle.directory.specs.Codes.{text_of, sense_of, is_code, well_formed, party_kind, Before, InByteOrder, NoStrangers}

abbrev lex : List ℕ → List ℕ → Ordering
lex = by_bytes.cmp

-- the first byte decides, or the rest does
step : (x y : ℕ) (xs ys : List ℕ) (o : Ordering) → MatchOrdering o (x < y) (x ≡ y) (y < x) → is_lt (ordering_then o (lex xs ys)) ≡ true
    → (is_lt (lex xs ys) ≡ true → Before xs ys) → Before (x ∷ xs) (y ∷ ys)
step x y xs ys Less r h rest = (0, refl, omega arith, inr (omega arith, r))
step x y xs ys Equal r h rest =
    let b = rest h in
    (suc b.0, (λ i. r i ∷ b.1 i), omega (arith, b.2), ⊎_elim (λ e. inl (ap suc e)) (λ p. inr (omega (arith, p.0), p.1)) b.3)
step x y xs ys Greater r h rest = absurd (false≢true h)

lex_before : (xs ys : List ℕ) → is_lt (lex xs ys) ≡ true → Before xs ys
lex_before [] [] h = absurd (false≢true h)
lex_before [] (y ∷ ys) h = (0, refl, omega arith, inl refl)
lex_before (x ∷ xs) [] h = absurd (false≢true h)
lex_before (x ∷ xs) (y ∷ ys) h = step x y xs ys (nat_cmp x y) (ranks x y) h (lex_before xs ys)

before_lex : (xs ys : List ℕ) → Before xs ys → is_lt (lex xs ys) ≡ true
before_lex xs [] (k, same, short, ends) = absurd (omega arith)
before_lex [] (y ∷ ys) b = refl
before_lex (x ∷ xs) (y ∷ ys) (zero, same, short, inl ends) = absurd (omega arith)
before_lex (x ∷ xs) (y ∷ ys) (zero, same, short, inr (long, less)) = rw (lt-ltb x y less)
before_lex (x ∷ xs) (y ∷ ys) (suc k, same, short, ends) =
    let head : x ≡ y = cc in
    let rest : take k xs ≡ take k ys = cc in
    let level : nat_cmp x y ≡ Equal = subst (λ z. nat_cmp z y ≡ Equal) (sym head) (tied_itself nat_cmp_total y) in
    rw level (before_lex xs ys (k, rest, omega arith, ⊎_elim (λ e. inl (omega arith)) (λ p. inr (omega arith, p.1)) ends))

then_level : (o : Ordering) → ordering_then o Equal ≡ o
then_level Less = refl
then_level Equal = refl
then_level Greater = refl

-- no byte too many
whole : (x : PartyCode) → well_formed x ≡ true → x.excess ≡ 0
whole x h = eqb-true _ _ (and_parts _ _ (and_parts _ _ h).0).1

-- the texts decide
by_text : (x y : PartyCode) → well_formed x ≡ true → well_formed y ≡ true → party_kind.order.cmp (sense_of x) (sense_of y) ≡ lex (text_of x) (text_of y)
by_text x y h k = rw (whole x h, whole y k) (then_level (lex (text_of x) (text_of y)))

pub in_byte_order : InByteOrder
in_byte_order x y h k =
    let e = by_text x y h k in
    record {
      below = rw e (lex_before (text_of x) (text_of y), before_lex (text_of x) (text_of y));
      same = rw e (
        (λ t. by_bytes.same (text_of x) (text_of y) ((Equal-is _).0 t)),
        (λ s. ap is_eq (subst (λ t. lex (text_of x) t ≡ Equal) s (tied_itself (compared by_bytes) (text_of x)))),
      );
    }

-- a record that is found has the code's meaning, and so is as well-formed as the code
pub no_strangers : (codes : List PartyCode) → Passed (checks party_kind codes) → NoStrangers codes
no_strangers codes passed c ill None found = refl
no_strangers codes passed c ill (Some p) (at, only) =
    absurd (both_ways _ ill (sym (ap is_code (at.2 c)) ∙ passed.1.0 (p - 1) (omega (arith, at.0, at.1)) c))
