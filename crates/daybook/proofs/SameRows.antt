-- The test of two emergency rows, field by field, tells whether they are equal.
use Rattle.std.proofs.Common.{◌≡◌, ℕ, ◌&&◌, eqb, List, ℤ, int_eq, refl, ap}
use Rattle.std.specs.Bool.{Decides}
use Rattle.std.specs.Cmp.Lexicographic.{pointwise}
use Rattle.std.proofs.lemmas.Bool.Decides.{Decides-and, Decides-eqb, Decides-int_eq, Decides-like}
use Rattle.std.proofs.lemmas.Slice.Eq.{slice_eq-Decides}
use Rattle.emergency.specs.declared.row.EmergencyRow.{EmergencyRow}

abbrev row : ℕ → ℕ → ℤ → ℕ → ℤ → List ℤ → ℕ → ℤ → EmergencyRow
row resource party spp generation charging bases hour cap = record { resource = resource; party = party; spp = spp; generation = generation; charging = charging; bases = bases; hour = hour; cap = cap }

equal : (r r' p p' : ℕ) (s s' : ℤ) (g g' : ℕ) (c c' : ℤ) (b b' : List ℤ) (h h' : ℕ) (m m' : ℤ) → r ≡ r' → p ≡ p' → s ≡ s' → g ≡ g' → c ≡ c' → b ≡ b' → h ≡ h' → m ≡ m' → row r p s g c b h m ≡ row r' p' s' g' c' b' h' m'
equal r r' p p' s s' g g' c c' b b' h h' m m' e1 e2 e3 e4 e5 e6 e7 e8 = rw (e1, e2, e3, e4, e5, e6, e7, e8) refl

bases_test : (xs ys : List ℤ) → Decides (pointwise int_eq xs ys) (xs ≡ ys)
bases_test xs ys = slice_eq-Decides Decides-int_eq xs ys (pointwise int_eq xs ys) refl

pub row_test : (a b : EmergencyRow) → Decides (eqb a.resource b.resource && (eqb a.party b.party && (int_eq a.spp b.spp && (eqb a.generation b.generation && (int_eq a.charging b.charging && (pointwise int_eq a.bases b.bases && (eqb a.hour b.hour && int_eq a.cap b.cap))))))) (a ≡ b)
row_test a b =
    Decides-like _
    (λ q. equal a.resource b.resource a.party b.party a.spp b.spp a.generation b.generation a.charging b.charging a.bases b.bases a.hour b.hour a.cap b.cap q.0 q.1.0 q.1.1.0 q.1.1.1.0 q.1.1.1.1.0 q.1.1.1.1.1.0 q.1.1.1.1.1.1.0 q.1.1.1.1.1.1.1)
    (λ e. (ap (λ r. r.resource) e, (ap (λ r. r.party) e, (ap (λ r. r.spp) e, (ap (λ r. r.generation) e, (ap (λ r. r.charging) e, (ap (λ r. r.bases) e, (ap (λ r. r.hour) e, ap (λ r. r.cap) e))))))))
    (Decides-and _ _ (Decides-eqb a.resource b.resource) (Decides-and _ _ (Decides-eqb a.party b.party) (Decides-and _ _ (Decides-int_eq a.spp b.spp) (Decides-and _ _ (Decides-eqb a.generation b.generation) (Decides-and _ _ (Decides-int_eq a.charging b.charging) (Decides-and _ _ (bases_test a.bases b.bases) (Decides-and _ _ (Decides-eqb a.hour b.hour) (Decides-int_eq a.cap b.cap))))))))
