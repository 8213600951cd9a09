use Rattle.std.proofs.Common.{◌≡◌, ℕ, None, Some, position, set, is_some, sym, refl, ap, ◌∙◌, inl, inr, ⊎_elim, arith}
use Rattle.std.proofs.lemmas.List.{map-set}
use Rattle.std.proofs.lemmas.Bool.{true≢false}
use Rattle.charges.specs.declared.table.Table.{Table}
use Rattle.charges.specs.Settings.{WasRemoved}
use Rattle.charges.specs.Table.{has_resource, number_at, held_in, held_count}
use Rattle.charges.proofs.Places.{Wrote, own_place, own_held, own_known, no_place, written, known_written, free_cleared, size_less, same_map}
use Rattle.charges.proofs.table.Table.remove.Goals as goal

-- r's place is freed
freed : (t : Table) (r i : ℕ) → position (has_resource r) t.rows ≡ Some i → Wrote t.rows (set t.rows i None) r None
freed t r i at = written t.rows r i None t.once (own_place t.rows r i t.once at)

removed : (t after : Table) (r i : ℕ) → position (has_resource r) t.rows ≡ Some i → after.rows ≡ set t.rows i None → WasRemoved t after r
removed t after r i at same =
    let w = freed t r i at in
    let known = own_known t.rows r i t.known at in
    record {
      holds = record { map = ap held_in same ∙ w.map; many = ap held_count same ∙ size_less _ _ _ w.size };
      kept = λ none. absurd (true≢false (sym (own_held t.rows r i t.once at) ∙ ap is_some none));
      outside = ⊎_elim (λ less. absurd (omega arith)) (λ more. absurd (omega arith));
    }

pub returns-then-place-self : goal.returns-then-place-self
returns-then-place-self c = removed c.args.self.now _ c.args.resource c.in-Some.place (sym c.in-Some.ensures) refl

pub returns-else-place-self : goal.returns-else-place-self
returns-else-place-self c = removed c.args.self.now _ c.args.resource c.in-Some.place (sym c.in-Some.ensures) refl

pub returns-in_default : goal.returns-in_default
returns-in_default c =
    let t = c.args.self.now in
    let none = no_place t.rows c.args.resource (sym c.in_default.ensures) in
    record { holds = record { map = same_map t.rows c.args.resource none; many = rw none }; kept = λ _. refl; outside = λ _. refl }

pub invariant_of-self : goal.invariant_of-self
invariant_of-self c =
    let t = c.args.self.now in
    let i = c.in-Some.place in
    let at = sym c.in-Some.ensures in
    let w = freed t c.args.resource i at in
    let within = (own_place t.rows c.args.resource i t.once at).within in
    record {
      many = w.many ∙ t.many;
      numbered = ap (λ ns. set ns i 0) t.numbered ∙ sym (map-set number_at t.rows i None);
      once = w.once;
      known = known_written t.rows c.args.resource i None within tt t.known;
      bound = omega (arith, t.bound, c.if-place-self.true);
      rest = free_cleared t.rows i t.end i t.rest within (inr (sym c.if-place-self.true, refl));
    }

pub invariant_of-self-else-place-self : goal.invariant_of-self-else-place-self
invariant_of-self-else-place-self c =
    let t = c.args.self.now in
    let i = c.in-Some.place in
    let at = sym c.in-Some.ensures in
    let w = freed t c.args.resource i at in
    let within = (own_place t.rows c.args.resource i t.once at).within in
    record {
      many = w.many ∙ t.many;
      numbered = ap (λ ns. set ns i 0) t.numbered ∙ sym (map-set number_at t.rows i None);
      once = w.once;
      known = known_written t.rows c.args.resource i None within tt t.known;
      bound = t.bound;
      rest = free_cleared t.rows i t.end t.end t.rest within (inl (omega arith));
    }
