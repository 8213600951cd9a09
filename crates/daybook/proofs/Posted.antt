-- What stands in a slot once a settlement was accepted adds up to the settlement's T and total load.
use Rattle.std.proofs.Common.{◌≡◌, ℕ, zero, suc, ◌+◌, ◌-◌, ◌<◌, ◌≤◌, Bool, true, false, ◌&&◌, leb, List, [], ◌∷◌, length, sum, slice_index, pos, ℤ, ◌+ℤ◌, Some, refl, ap, ◌∙◌, inl, inr, sub-one, arith}
use Rattle.std.proofs.lemmas.Int.{ints}
use Rattle.std.proofs.lemmas.Bool.{cases_lt, lt-leb}
use Rattle.std.proofs.lemmas.List.Sums.{sum_by-cons}
use Rattle.book.specs.declared.ledger.Book.{Book as BookOver}
use Rattle.book.specs.Books.{model, Moves, brought}
use Rattle.charges.specs.Lines.{Line}
use Rattle.day.specs.declared.records.Settlement.{Settlement as DaySettlement}
use Rattle.daybook.specs.declared.ledger.Mode.{Mode}
use Rattle.daybook.specs.declared.ledger.Mode.TheVariants.{Settle, Restate}
use Rattle.daybook.specs.Calls.{type_in, asked_over, told_at, paid_in, load_in}
use Rattle.law.specs.Settlements.{Among, over, Lawful, Settlement, Book, zeros, posted}
use Rattle.law.specs.Steps.{accepted, among, checks, entry_in, first, told, HoldsNow}
use Rattle.law.proofs.Table.{Sound, checks_so, told_so, so_among, lines_add_up}
use Rattle.law.proofs.Totals.{over_same, over_first}
use Rattle.sharing.specs.Choice.{chosen}
use Rattle.walk.specs.Totals.{total_of}

-- nothing is added past place n
over_up_to : (m n : ℕ) (f : ℕ → ℤ) → n ≤ m → ((p : ℕ) → n < p → f p ≡ pos 0) → over m f ≡ over n f
over_up_to zero n f le none = let e : n ≡ 0 = omega arith in rw e refl
over_up_to (suc m) n f le none = elim (cases_lt m n) [
  | inl lt ↦ let e : n ≡ suc m = omega arith in rw e refl
  | inr below ↦
      let rest = over_up_to m n f below none in
      let last = none (suc m) (omega arith) in
      omega (arith, ints, rest, last)
]

-- a loop's step
pub one_more : (f : ℕ → ℤ) (n : ℕ) (a b : ℤ) → 1 ≤ n → a ≡ over (n - 1) f → b ≡ f n → a +ℤ b ≡ over (n + 1 - 1) f
one_more f zero a b h so_far last = absurd (omega arith)
one_more f (suc m) a b h so_far last =
    let before = ap (λ k. over k f) (let e : suc m - 1 ≡ m = omega arith in e) in
    let after = ap (λ k. over k f) (let e : suc m + 1 - 1 ≡ suc m = omega arith in e) in
    omega (arith, ints, so_far, last, before, after)

-- the whole loop
pub paid_all : (b : Book) (t i n : ℕ) (a : ℤ) → n ≡ 65 → a ≡ over (n - 1) (λ p. (told_at b t i p).paid) → a ≡ paid_in b t i
unfolding paid_in
paid_all b t i n a e so_far = so_far ∙ ap (λ k. over (k - 1) (λ p. (told_at b t i p).paid)) e

pub load_all : (b : Book) (t i n : ℕ) (a : ℤ) → n ≡ 65 → a ≡ over (n - 1) (λ p. pos (told_at b t i p).load) → a ≡ load_in b t i
unfolding load_in
load_all b t i n a e so_far = so_far ∙ ap (λ k. over (k - 1) (λ p. pos (told_at b t i p).load)) e

load_after : (x : ℕ) (xs : List ℕ) (k : ℕ) → 1 ≤ k → pos (slice_index (x ∷ xs) (suc k - 1)) ≡ pos (slice_index xs (k - 1))
load_after x xs zero h = absurd (omega arith)
load_after x xs (suc j) h = simp sub-one

-- the loads, at the places 1 .. n
over_loads : (xs : List ℕ) (n : ℕ) → length xs ≡ n → over n (λ p. pos (slice_index xs (p - 1))) ≡ pos (sum xs)
over_loads [] zero e = refl
over_loads [] (suc n) e = absurd (omega arith)
over_loads (x ∷ xs) zero e = absurd (omega arith)
over_loads (x ∷ xs) (suc n) e =
    let first = over_first n (λ p. pos (slice_index (x ∷ xs) (p - 1))) in
    let moved = over_same n (λ k. pos (slice_index (x ∷ xs) (suc k - 1))) (λ k. pos (slice_index xs (k - 1))) (λ k h. load_after x xs k h.0) in
    let rest = over_loads xs n (omega arith) in
    let here : pos (slice_index (x ∷ xs) (1 - 1)) ≡ pos x = refl in
    omega (arith, ints, first, moved, rest, here, sum_by-cons (λ l. l) x xs)

fails : (b c : Bool) → c ≡ false → (b && c) ≡ false
fails true c e = e
fails false c e = refl

told_here : (b : Book) (t i p : ℕ) → (among t 3 && among i b.intervals) ≡ true → among p b.parties ≡ true → told_at b t i p ≡ entry_in b t i p
told_here b t i p slot party = rw (slot, party) refl

told_past : (b : Book) (t i p : ℕ) → (among t 3 && among i b.intervals) ≡ true → among p b.parties ≡ false → told_at b t i p ≡ zeros
told_past b t i p slot party = rw (slot, party) refl

module _ (b after : Book) (t i : ℕ) (s : Settlement) (sound : Sound b.parties b.intervals t i s) (few : b.parties ≤ 64) (holds : HoldsNow b t i (Some s) after) where
  in_slot : (among t 3 && among i after.intervals) ≡ true
  in_slot = rw (holds.intervals_stay, so_among t 3 sound.slot.0, so_among i b.intervals sound.slot.1) refl

  posted_here : (p : ℕ) → Among p b.parties → told_at after t i p ≡ posted (Some s) p
  posted_here p h =
      let party : among p after.parties ≡ true = rw holds.parties_stay (so_among p b.parties h) in
      told_here after t i p in_slot party ∙ rw holds.stands_here (holds.keeps_here p h)

  none_past : (p : ℕ) → b.parties < p → told_at after t i p ≡ zeros
  none_past p h = told_past after t i p in_slot (rw holds.parties_stay (fails (leb 1 p) (leb p b.parties) (lt-leb p b.parties h)))

  pub paid_adds : paid_in after t i ≡ total_of s.lines
  unfolding paid_in
  paid_adds =
      over_up_to 64 b.parties (λ p. (told_at after t i p).paid) few (λ p h. ap (λ e. e.paid) (none_past p h))
      ∙ over_same b.parties (λ p. (told_at after t i p).paid) (λ p. (posted (Some s) p).paid) (λ p h. ap (λ e. e.paid) (posted_here p h))
      ∙ lines_add_up b.parties 0 1 s.lines sound.to_parties

  pub loads_add : load_in after t i ≡ pos (sum s.loads)
  unfolding load_in
  loads_add =
      over_up_to 64 b.parties (λ p. pos (told_at after t i p).load) few (λ p h. ap (λ e. pos e.load) (none_past p h))
      ∙ over_same b.parties (λ p. pos (told_at after t i p).load) (λ p. pos (posted (Some s) p).load) (λ p h. ap (λ e. pos e.load) (posted_here p h))
      ∙ over_loads s.loads b.parties sound.one_each

-- what the slot of an accepted settlement or restatement adds up to
pub record AddsUp (settlement : DaySettlement) (ls : List Line) (c : BookOver) : Type 0 where
  pub paid : paid_in (model c) (type_in settlement.slot) settlement.slot.interval ≡ total_of ls
  pub load : load_in (model c) (type_in settlement.slot) settlement.slot.interval ≡ pos (sum settlement.loads.items)

module _ (settlement : DaySettlement) (ls : List Line) (b c : BookOver) where
  abbrev s : Settlement
  s = brought settlement.loads.items ls (chosen settlement.rule)

  abbrev t : ℕ
  t = type_in settlement.slot

  abbrev i : ℕ
  i = settlement.slot.interval

  from_step : (wanted : Bool) → Lawful s.rule → accepted ≡ told (first (checks b.parties b.intervals ((model b).stands t i) wanted t i s.loads s.lines)) → HoldsNow (model b) t i (Some s) (model c) → AddsUp settlement ls c
  from_step wanted lawful says holds =
      let sound = checks_so b.parties b.intervals ((model b).stands t i) wanted t i s lawful (told_so _ says) in
      record { paid = paid_adds (model b) (model c) t i s sound b.sized.0 holds; load = loads_add (model b) (model c) t i s sound b.sized.0 holds }

pub adds_up : (mode : Mode) (settlement : DaySettlement) (ls : List Line) (b c : BookOver) → Moves b (asked_over mode settlement ls) accepted c → AddsUp settlement ls c
adds_up Settle settlement ls b c moves = from_step settlement ls b c false moves.step.lawful moves.step.says moves.step.left
adds_up Restate settlement ls b c moves = from_step settlement ls b c true moves.step.lawful moves.step.says moves.step.left
