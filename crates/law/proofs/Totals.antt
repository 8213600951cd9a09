-- Sums over 1 .. n, over slots and over lines.
use Rattle.std.proofs.Common.{◌≡◌, ℕ, zero, suc, ◌+◌, ◌-◌, ◌<◌, ◌≤◌, cond, eqb, List, [], ◌∷◌, length, get_or, ℤ, pos, ◌+ℤ◌, ◌*ℤ◌, ◌≤ℤ◌, sym, refl, ◌∙◌, inl, inr, mul-le-mul_right, add-one, sub-one, arith}
use Rattle.std.proofs.lemmas.Int.{ints}
use Rattle.std.proofs.lemmas.Bool.{eq-eqb, ne_eqb, cases_eq, cases_lt}
use borrow.Author.Differences.{up, down}
use Rattle.numbers.specs.Sums.{signed_total}
use Rattle.numbers.proofs.Sums.{signed_sum_cons}
use Rattle.law.specs.Settlements.{over, Among, apart, over_slots, SlotOf}

pub over_same : (n : ℕ) (f g : ℕ → ℤ) → ((k : ℕ) → Among k n → f k ≡ g k) → over n f ≡ over n g
over_same zero f g e = refl
over_same (suc n) f g e =
    let rest = over_same n f g (λ k h. e k (omega arith)) in
    let last = e (suc n) (omega arith) in
    omega (arith, ints, rest, last)

pub over_add : (n : ℕ) (f g : ℕ → ℤ) → over n (λ k. f k +ℤ g k) ≡ over n f +ℤ over n g
over_add zero f g = refl
over_add (suc n) f g = let rest = over_add n f g in omega (arith, ints, rest)

pub over_none : (n : ℕ) (f : ℕ → ℤ) → ((k : ℕ) → Among k n → f k ≡ pos 0) → over n f ≡ pos 0
over_none zero f e = refl
over_none (suc n) f e =
    let rest = over_none n f (λ k h. e k (omega arith)) in
    let last = e (suc n) (omega arith) in
    omega (arith, ints, rest, last)

pub over_swap : (m n : ℕ) (f : ℕ → ℕ → ℤ) → over m (λ a. over n (λ b. f a b)) ≡ over n (λ b. over m (λ a. f a b))
over_swap zero n f = sym (over_none n (λ b. pos 0) (λ k h. refl))
over_swap (suc m) n f =
    let rest = over_swap m n f in
    let add = over_add n (λ b. over m (λ a. f a b)) (λ b. f (suc m) b) in
    omega (arith, ints, rest, add)

-- two sums differ by no more than their parts do
pub over_near : (n : ℕ) (f g c : ℕ → ℤ) → ((k : ℕ) → Among k n → pos (apart (f k) (g k)) ≤ℤ c k) → pos (apart (over n f) (over n g)) ≤ℤ over n c
over_near zero f g c e = omega (arith, ints)
over_near (suc n) f g c e =
    let rest = over_near n f g c (λ k h. e k (omega arith)) in
    let last = e (suc n) (omega arith) in
    omega (arith, ints, rest, last)

pick_yes : (q p : ℕ) (a : ℤ) → q ≡ p → cond (eqb q p) a (pos 0) ≡ a
pick_yes q p a e = let t = eq-eqb q p e in rw t

pick_no : (q p : ℕ) (a : ℤ) → (q ≡ p → ⊥) → cond (eqb q p) a (pos 0) ≡ pos 0
pick_no q p a e = let t = ne_eqb q p e in rw t

-- of 1 .. n one is q
pub over_pick : (n q : ℕ) (a : ℤ) → Among q n → over n (λ p. cond (eqb q p) a (pos 0)) ≡ a
over_pick zero q a h = absurd (omega arith)
over_pick (suc n) q a h = elim (cases_eq q (suc n)) [
  | inl e ↦ let rest = over_none n (λ p. cond (eqb q p) a (pos 0)) (λ k w. pick_no q k a (omega arith)) in
      let last = pick_yes q (suc n) a e in
      omega (arith, ints, rest, last)
  | inr e ↦ let rest = over_pick n q a (omega arith) in
      let last = pick_no q (suc n) a e in
      omega (arith, ints, rest, last)
]

pub over_first : (n : ℕ) (f : ℕ → ℤ) → over (suc n) f ≡ f 1 +ℤ over n (λ k. f (suc k))
over_first zero f = omega (arith, ints)
over_first (suc n) f = let rest = over_first n f in omega (arith, ints, rest)

place_after : {X : Type 0} (x : X) (xs : List X) (d : X) (k : ℕ) → 1 ≤ k → get_or (x ∷ xs) (suc k - 1) d ≡ get_or xs (k - 1) d
place_after x xs d zero h = absurd (omega arith)
place_after x xs d (suc j) h = simp sub-one

-- the items of a list of n, at the places 1 .. n
pub over_items : (xs : List ℤ) (n : ℕ) → length xs ≡ n → over n (λ p. get_or xs (p - 1) (pos 0)) ≡ signed_total xs
over_items [] zero e = refl
over_items [] (suc n) e = absurd (omega arith)
over_items (x ∷ xs) zero e = absurd (omega arith)
over_items (x ∷ xs) (suc n) e =
    let first = over_first n (λ p. get_or (x ∷ xs) (p - 1) (pos 0)) in
    let moved = over_same n (λ k. get_or (x ∷ xs) (suc k - 1) (pos 0)) (λ k. get_or xs (k - 1) (pos 0)) (λ k h. place_after x xs (pos 0) k h.0) in
    let rest = over_items xs n (omega arith) in
    omega (arith, ints, first, moved, rest, signed_sum_cons (λ z. z) x xs)

pub slots_same : (m : ℕ) (f g : ℕ → ℕ → ℤ) → ((t i : ℕ) → SlotOf m t i → f t i ≡ g t i) → over_slots m f ≡ over_slots m g
slots_same m f g e = over_same 3 (λ t. over m (λ i. f t i)) (λ t. over m (λ i. g t i)) (λ t h. over_same m (f t) (g t) (λ i k. e t i (h, k)))

pub slots_none : (m : ℕ) (f : ℕ → ℕ → ℤ) → ((t i : ℕ) → SlotOf m t i → f t i ≡ pos 0) → over_slots m f ≡ pos 0
slots_none m f e = over_none 3 (λ t. over m (λ i. f t i)) (λ t h. over_none m (f t) (λ i k. e t i (h, k)))

pub slots_near : (m : ℕ) (f g c : ℕ → ℕ → ℤ) → ((t i : ℕ) → SlotOf m t i → pos (apart (f t i) (g t i)) ≤ℤ c t i) → pos (apart (over_slots m f) (over_slots m g)) ≤ℤ over_slots m c
slots_near m f g c e = over_near 3 (λ t. over m (λ i. f t i)) (λ t. over m (λ i. g t i)) (λ t. over m (λ i. c t i)) (λ t h. over_near m (f t) (g t) (c t) (λ i k. e t i (h, k)))

-- parties first, or slots first
pub slots_swap : (n m : ℕ) (f : ℕ → ℕ → ℕ → ℤ) → over n (λ p. over_slots m (λ t i. f p t i)) ≡ over_slots m (λ t i. over n (λ p. f p t i))
slots_swap n m f =
    over_swap n 3 (λ p t. over m (λ i. f p t i))
    ∙ over_same 3 (λ t. over n (λ p. over m (λ i. f p t i))) (λ t. over m (λ i. over n (λ p. f p t i))) (λ t h. over_swap n m (λ p i. f p t i))

-- two whole numbers of cents, each less than one from the same exact share, differ by one at most
pub one_cent : (all load : ℕ) (total a c : ℤ) → apart (a *ℤ pos all) (total *ℤ pos load) < all → apart (c *ℤ pos all) (total *ℤ pos load) < all → apart a c ≤ 1
one_cent all load total a c h g = elim (cases_lt (down a + up c + 1) (up a + down c)) [
  | inl more ↦ let k = mul-le-mul_right all more in absurd (omega (arith, ints, k))
  | inr most ↦ elim (cases_lt (up a + down c + 1) (down a + up c)) [
    | inl less ↦ let k = mul-le-mul_right all less in absurd (omega (arith, ints, k))
    | inr least ↦ omega (arith, ints)
  ]
]

-- a loop's step
pub over_more : (n : ℕ) (f : ℕ → ℤ) → over (n + 1) f ≡ over n f +ℤ f (n + 1)
over_more n f = rw add-one
