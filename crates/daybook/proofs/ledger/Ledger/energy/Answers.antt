use Rattle.std.proofs.Common.{◌≡◌, ap, ◌∙◌}
use Rattle.charges.specs.Listed.{listed_line}
use Rattle.charges.specs.Rows.{numbered}
use Rattle.losses.specs.Lines.{loss_line, loss_basis}
use Rattle.daybook.proofs.TableLines.{lines_of, bases_of}
use Rattle.daybook.proofs.UnderLayers.{under, under_basis, told_of_same}
use Rattle.daybook.proofs.WorkedOut.{told_each}
use Rattle.daybook.specs.Calls.{table_lines, table_bases, NeedsMemory}
use Rattle.daybook.proofs.ledger.Ledger.energy.Goals as goal

pub returns-in_ok-work_out-in-Emergency-clause-energy : goal.returns-in_ok-work_out-in-Emergency-clause-energy
returns-in_ok-work_out-in-Emergency-clause-energy c =
    let tables = c.args.tables.now in
    let curves = c.args.self.now.emergency.curves.records.now in
    let over = c.over-source.ensures in
    let out = c.in_ok-work_out-in-Emergency.ensures in
    let same = ap (λ d. d.records.now) out.curves in
    let lines : numbered (λ n w. w.line) 1 c.over-source.result.below.below.below.rows.now ≡ table_lines c.args.name tables curves =
    rw c.in-Emergency.is (ap (λ s. numbered (λ n w. w.line) 1 s.rows.now) over.source ∙ lines_of tables curves _ _ _ _ out.slices same out.rows c.source.ensures.lines) in
    let bases : numbered (λ n w. w.basis) 1 c.over-source.result.below.below.below.rows.now ≡ table_bases c.args.name tables curves =
    rw c.in-Emergency.is (ap (λ s. numbered (λ n w. w.basis) 1 s.rows.now) over.source ∙ bases_of tables curves _ _ _ _ out.slices same out.rows c.source.ensures.bases) in
    told_of_same (NeedsMemory c.args.name) _ _ _ _ _ (under tables.layers _ _ _ _ _ over.state over.denial over.adjustment lines) (under_basis tables.layers _ _ _ _ _ over.adjustment lines bases) c.energy_of.ensures

pub returns-in-Loss-clause-energy : goal.returns-in-Loss-clause-energy
returns-in-Loss-clause-energy c =
    let tables = c.args.tables.now in
    let curves = c.args.self.now.emergency.curves.records.now in
    let over = c.over-source-in-Loss.ensures in
    let lines : numbered loss_line 1 c.over-source-in-Loss.result.below.below.below.rows.now ≡ table_lines c.args.name tables curves =
    rw c.in-Loss.is (ap (λ s. numbered loss_line 1 s.rows.now) over.source ∙ ap (numbered loss_line 1) c.loss_source.ensures) in
    let bases : numbered (λ n row. loss_basis row) 1 c.over-source-in-Loss.result.below.below.below.rows.now ≡ table_bases c.args.name tables curves =
    rw c.in-Loss.is (ap (λ s. numbered (λ n row. loss_basis row) 1 s.rows.now) over.source ∙ ap (numbered (λ n row. loss_basis row) 1) c.loss_source.ensures ∙ told_each loss_basis 1 tables.losses.items) in
    told_of_same (NeedsMemory c.args.name) _ _ _ _ _ (under tables.layers _ _ _ _ _ over.state over.denial over.adjustment lines) (under_basis tables.layers _ _ _ _ _ over.adjustment lines bases) c.energy_of-in-Loss.ensures

pub returns-in-Listed-clause-energy : goal.returns-in-Listed-clause-energy
returns-in-Listed-clause-energy c =
    let tables = c.args.tables.now in
    let curves = c.args.self.now.emergency.curves.records.now in
    let over = c.over-source-in-Listed.ensures in
    let lines : numbered listed_line 1 c.over-source-in-Listed.result.below.below.below.rows.now ≡ table_lines c.args.name tables curves =
    rw c.in-Listed.is (ap (λ s. numbered listed_line 1 s.rows.now) over.source ∙ ap (numbered listed_line 1) c.listed_source.ensures) in
    let bases : numbered (λ n row. 0) 1 c.over-source-in-Listed.result.below.below.below.rows.now ≡ table_bases c.args.name tables curves =
    rw c.in-Listed.is (ap (λ s. numbered (λ n row. 0) 1 s.rows.now) over.source ∙ ap (numbered (λ n row. 0) 1) c.listed_source.ensures ∙ told_each (λ row. 0) 1 tables.listed.items) in
    told_of_same (NeedsMemory c.args.name) _ _ _ _ _ (under tables.layers _ _ _ _ _ over.state over.denial over.adjustment lines) (under_basis tables.layers _ _ _ _ _ over.adjustment lines bases) c.energy_of-in-Listed.ensures
