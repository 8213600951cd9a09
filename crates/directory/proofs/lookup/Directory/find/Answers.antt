use Rattle.std.proofs.Common.{rules, ◌≡◌, ◌∙◌, sym, take, drop, length, ◌/◌, ◌+◌, ◌-◌, arith}
use Rattle.std.proofs.lemmas.List.{length-drop, take_all}
use Rattle.directory.proofs.Found.{met, upper, lower, whole, nowhere}
use Rattle.directory.proofs.lookup.Directory.find.Goals as goal
use Rattle.directory.proofs.lookup.Directory.find.Goals.{in-Less, in-Greater}

pub loop-middle-init : goal.loop-middle-init
loop-middle-init g c = whole g.R.Keyed.kind c.args.self.now.records.now c.args.self.now.rises (g.R.Keyed.sense c.args.key.now)

pub returns-in-Equal : goal.returns-in-Equal
returns-in-Equal g c =
    let told = sym c.in-Equal.ensures in
    met g.R.Keyed.kind c.args.self.now.records.now c.args.self.now.rises (g.R.Keyed.sense c.args.key.now) c.loop-middle.rest.now c.loop-middle.before c.loop-middle.invariant
    (length c.loop-middle.rest.now / 2) c.in-Some.middle.now (search rules) (search rules) (rw c.key.ensures at told)

pub loop-middle-preserved : goal.loop-middle-preserved
loop-middle-preserved g c =
    let rest = c.loop-middle.rest.now in
    let half = length rest / 2 in
    elim c.match-compare.branch [
      | in-Less w ↦ (
          let told = sym c.compare.ensures ∙ w.in-Less.is in
          let cut : c.match-compare.rest.now ≡ take (length rest - (half + 1)) (drop (half + 1) rest) = search rules in
          rw (cut ∙ take_all _ _ (omega (arith, length-drop (half + 1) rest)), w.before-is)
          (upper g.R.Keyed.kind c.args.self.now.records.now c.args.self.now.rises (g.R.Keyed.sense c.args.key.now) rest c.loop-middle.before c.loop-middle.invariant
          half c.in-Some.middle.now (search rules) (search rules) (rw c.key.ensures at told)))
      | in-Greater w ↦ (
          let told = sym c.compare.ensures ∙ w.in-Greater.is in
          let cut : c.match-compare.rest.now ≡ take half rest = search rules in
          rw (cut, w.before-is)
          (lower g.R.Keyed.kind c.args.self.now.records.now c.args.self.now.rises (g.R.Keyed.sense c.args.key.now) rest c.loop-middle.before c.loop-middle.invariant
          half c.in-Some.middle.now (search rules) (search rules) (rw c.key.ensures at told)))
    ]

pub returns : goal.returns
returns g c =
    nowhere g.R.Keyed.kind c.args.self.now.records.now c.args.self.now.rises (g.R.Keyed.sense c.args.key.now) c.loop-middle.rest.now c.loop-middle.before c.loop-middle.invariant
    (grind (arith, c.in_default.ensures.lookup))
