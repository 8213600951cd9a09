-- Total orders of keys: of numbers, of texts, and of pairs.
use Rattle.std.specs.Prelude.{◌≡◌, ℕ, List}
use Rattle.std.specs.declared.cmp.Ordering.TheVariants.{Less, Equal}
use Rattle.std.specs.declared.cmp.Ordering.{Ordering}
use Rattle.std.proofs.Common.{ap}
use Rattle.std.specs.Cmp.{IsTotalOrder, nat_cmp_total, on_total, then_total}
use Rattle.std.specs.Ordering.{ordering_reverse}
use Rattle.std.proofs.lemmas.Map.Lookups.{exact_unsigned, exact_bytes, exact_pairs}
use Rattle.std.specs.Cmp.Lexicographic.{lists_total}

-- one answer for any two keys, turned when they are turned, carried on from key to key, and equal only for the same key
pub record Order (K : Type 0) : Type 0 where
  pub cmp : K → K → Ordering
  pub flip : (x y : K) → cmp x y ≡ ordering_reverse (cmp y x)
  pub trans : (x y z : K) → cmp x y ≡ Less → cmp y z ≡ Less → cmp x z ≡ Less
  pub same : (x y : K) → cmp x y ≡ Equal → x ≡ y

-- a comparison as an order, where it finds only the same keys equal
abbrev pub ordered : {K : Type 0} {R : K → K → Ordering} (o : IsTotalOrder R) → ((x y : K) → R x y ≡ Equal → x ≡ y) → Order K
ordered {K} {R} o same = record { cmp = R; flip = o.antisymm; trans = o.trans; same = same }

-- numbers by size
abbrev pub by_size : Order ℕ
by_size = ordered nat_cmp_total exact_unsigned

-- texts by their bytes: the first that differs decides, and a prefix is below what it begins
abbrev pub by_bytes : Order (List ℕ)
by_bytes = ordered (lists_total nat_cmp_total) exact_bytes

-- an order as a comparison
abbrev pub compared : {K : Type 0} (o : Order K) → IsTotalOrder o.cmp
compared o = record { antisymm = o.flip; trans = o.trans; congr = λ x y z e. ap (λ k. o.cmp k z) (o.same x y e) }

-- pairs by their first parts, and where these are the same by their second
abbrev pub in_turn : {A B : Type 0} → Order A → Order B → Order (A × B)
in_turn {A} {B} a b = ordered (then_total (on_total (λ (p : A × B). p.0) (compared a)) (on_total (λ (p : A × B). p.1) (compared b))) (exact_pairs a.cmp b.cmp a.same b.same)
