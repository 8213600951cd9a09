use Rattle.std.proofs.Common.{◌≡◌, ℕ, true, ℤ, Some, None, Err, Decides, sym, refl, ap, ◌∙◌, subst, inl, inr, w64, SFits, to_z, of_z, arith, set}
use Rattle.std.proofs.lemmas.List.{map-set}
use Rattle.std.proofs.lemmas.Int.{to_z-of_z}
use Rattle.std.proofs.lemmas.Result.{err_from_is_err_and}
use Rattle.charges.specs.Refusals.{InRange}
use Rattle.charges.specs.Table.{number_at, place_for}
use Rattle.charges.specs.declared.setting.SettingRefusal.TheVariants.{Full}
use Rattle.charges.specs.Settings.{changed, held_by, WasSet}
use Rattle.charges.proofs.Places.{set_place, set_full, written, known_written, free_written, size_more}
use Rattle.charges.proofs.table.Table.set.Goals as goal

-- what the test told, clear of the figure's bits
good : (r : ℕ) (z : ℤ) → SFits w64 z → Decides true (InRange r (to_z w64 (of_z w64 z))) → InRange r z
good r z fits told = subst (InRange r) (to_z-of_z w64 z fits) (told.0 refl)

pub returns : goal.returns
returns c =
    let t = c.args.self.now in
    let z = to_z w64 (of_z w64 c.args.figure) in
    let at : place_for t.rows c.args.resource ≡ Some c.in_ok-place.place = sym c.place_for.ensures ∙ c.in_ok-place.ensures.ok_part in
    let s = set_place t.rows c.args.resource c.in_ok-place.place t.many t.once at in
    let w = written t.rows c.args.resource c.in_ok-place.place (Some z) t.once s.0 in (
      (good c.args.resource c.args.figure c.ranges.figure c.if-not-is_in_range.ensures, (s.1, tt)),
      record { map = w.map ∙ ap (λ f. changed (held_by t) c.args.resource (Some f)) (to_z-of_z w64 c.args.figure c.ranges.figure); many = size_more _ _ _ w.size },
    )

pub returns-in_err-place : goal.returns-in_err-place
returns-in_err-place c =
    let t = c.args.self.now in
    let none : place_for t.rows c.args.resource ≡ None = sym c.place_for.ensures ∙ c.in_err-place.ensures.ok_part in
    let p = err_from_is_err_and c.from_residual.result c.from_residual.ensures.1 in
    let full = rw c.in_err-place.ensures.ok_part at c.in_err-place.ensures.value in
    let is : c.in_err-place.field-0.0 ≡ Full = cc in
    subst (WasSet t t c.args.resource c.args.figure) (sym (p.1 ∙ ap Err (p.2 ∙ is)))
    (inr (good c.args.resource c.args.figure c.ranges.figure c.if-not-is_in_range.ensures, inl (refl, refl, λ has. set_full t.rows c.args.resource t.many none has)), refl)

pub invariant_of-self : goal.invariant_of-self
invariant_of-self c =
    let t = c.args.self.now in
    let z = to_z w64 (of_z w64 c.args.figure) in
    let at : place_for t.rows c.args.resource ≡ Some c.in_ok-place.place = sym c.place_for.ensures ∙ c.in_ok-place.ensures.ok_part in
    let place = (set_place t.rows c.args.resource c.in_ok-place.place t.many t.once at).0 in
    let w = written t.rows c.args.resource c.in_ok-place.place (Some z) t.once place in
    record {
      many = w.many ∙ t.many;
      numbered = ap (λ ns. set ns c.in_ok-place.place c.args.resource) t.numbered ∙ sym (map-set number_at t.rows c.in_ok-place.place _);
      once = w.once;
      known = known_written t.rows c.args.resource c.in_ok-place.place (Some z) place.within (c.if-not-is_in_range.ensures.0 refl) t.known;
      bound = omega (arith, t.bound, t.many, place.within, c.max-self.ensures);
      rest = free_written t.rows c.in_ok-place.place t.end c.max-self.result _ t.rest (omega (arith, c.max-self.ensures)) (omega (arith, c.max-self.ensures));
    }
