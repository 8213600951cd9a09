use Rattle.std.proofs.Common.{sym, ap, ◌∙◌}
use Rattle.charges.specs.Table.{figure_at}
use Rattle.charges.proofs.Places.{own_place, no_place}
use Rattle.charges.proofs.table.Table.held.Goals as goal

pub returns-in_err-place-clause-figure : goal.returns-in_err-place-clause-figure
returns-in_err-place-clause-figure c = ap figure_at c.from_residual.ensures ∙ sym (no_place c.args.self.now.rows c.args.resource (sym c.in_err-place.ensures))

pub returns-clause-figure : goal.returns-clause-figure
returns-clause-figure c = sym (own_place c.args.self.now.rows c.args.resource c.in_ok-place.place c.args.self.now.once (sym c.in_ok-place.ensures)).held
