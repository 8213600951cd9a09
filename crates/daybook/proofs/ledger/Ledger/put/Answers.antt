use Rattle.std.proofs.Common.{◌≡◌, length, IfOk, ap, subst, ◌∙◌}
use Rattle.charges.specs.Listed.{listed_line}
use Rattle.charges.specs.Rows.{numbered}
use Rattle.losses.specs.Lines.{loss_line}
use Rattle.daybook.proofs.TableLines.{lines_of}
use Rattle.daybook.proofs.UnderLayers.{under, posted_of_same}
use Rattle.daybook.specs.Calls.{asked_over, table_lines, settled_lines, NeedsMemory, Posts}
use Rattle.daybook.proofs.ledger.Ledger.put.Goals as goal

pub returns-in_ok-work_out-in-Emergency : goal.returns-in_ok-work_out-in-Emergency
returns-in_ok-work_out-in-Emergency c =
    let settlement = c.args.settlement.now in
    let tables = c.args.tables.now in
    let curves = c.args.self.now.emergency.curves.records.now in
    let over = c.over-source.ensures in
    let out = c.in_ok-work_out-in-Emergency.ensures in
    let rows : numbered (λ n w. w.line) 1 c.over-source.result.below.below.below.rows.now ≡ table_lines settlement.source tables curves =
    rw c.in-Emergency.is (ap (λ s. numbered (λ n w. w.line) 1 s.rows.now) over.source ∙ lines_of tables curves _ _ _ _ out.slices (ap (λ d. d.records.now) out.curves) out.rows c.source.ensures.lines) in
    let lines = under tables.layers _ _ _ _ _ over.state over.denial over.adjustment rows in
    record {
      posts = subst (λ b. Posts (NeedsMemory settlement.source) b (asked_over c.args.mode settlement (settled_lines settlement tables curves)) c.post.result c.post.new.book) out.book (posted_of_same (NeedsMemory settlement.source) c.args.mode settlement _ _ c.work_out.new.self.book c.post.new.book c.post.result lines c.post.ensures.posts);
      lines = subst (λ ls. IfOk c.post.result (λ count. count ≡ length ls)) lines c.post.ensures.lines;
    }

pub returns-in-Loss : goal.returns-in-Loss
returns-in-Loss c =
    let settlement = c.args.settlement.now in
    let tables = c.args.tables.now in
    let curves = c.args.self.now.emergency.curves.records.now in
    let over = c.over-source-in-Loss.ensures in
    let rows : numbered loss_line 1 c.over-source-in-Loss.result.below.below.below.rows.now ≡ table_lines settlement.source tables curves =
    rw c.in-Loss.is (ap (λ s. numbered loss_line 1 s.rows.now) over.source ∙ ap (numbered loss_line 1) c.loss_source.ensures) in
    let lines = under tables.layers _ _ _ _ _ over.state over.denial over.adjustment rows in
    record {
      posts = posted_of_same (NeedsMemory settlement.source) c.args.mode settlement _ _ c.args.self.now.book c.post-in-Loss.new.book c.post-in-Loss.result lines c.post-in-Loss.ensures.posts;
      lines = subst (λ ls. IfOk c.post-in-Loss.result (λ count. count ≡ length ls)) lines c.post-in-Loss.ensures.lines;
    }

pub returns-in-Listed : goal.returns-in-Listed
returns-in-Listed c =
    let settlement = c.args.settlement.now in
    let tables = c.args.tables.now in
    let curves = c.args.self.now.emergency.curves.records.now in
    let over = c.over-source-in-Listed.ensures in
    let rows : numbered listed_line 1 c.over-source-in-Listed.result.below.below.below.rows.now ≡ table_lines settlement.source tables curves =
    rw c.in-Listed.is (ap (λ s. numbered listed_line 1 s.rows.now) over.source ∙ ap (numbered listed_line 1) c.listed_source.ensures) in
    let lines = under tables.layers _ _ _ _ _ over.state over.denial over.adjustment rows in
    record {
      posts = posted_of_same (NeedsMemory settlement.source) c.args.mode settlement _ _ c.args.self.now.book c.post-in-Listed.new.book c.post-in-Listed.result lines c.post-in-Listed.ensures.posts;
      lines = subst (λ ls. IfOk c.post-in-Listed.result (λ count. count ≡ length ls)) lines c.post-in-Listed.ensures.lines;
    }
