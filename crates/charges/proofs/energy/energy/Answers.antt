use Rattle.std.proofs.Common.{◌≡◌, ℕ, ◌+◌, ◌-◌, ◌≤◌, map, sum, sym, ap, ◌∙◌, arith}
use Rattle.std.specs.List.{range_with_len}
use Rattle.std.proofs.lemmas.List.FromFn.{sum_by-map-range_with_len_more}
use Rattle.charges.specs.Lines.{line_at}
use Rattle.charges.specs.SourceLaws.{based_most}
use Rattle.charges.proofs.energy.energy.Goals as goal

-- the total with one more basis
more : (basis : ℕ → ℕ) (n kwh b : ℕ) → 1 ≤ n → kwh ≡ sum (map basis (range_with_len 1 (n - 1))) → b ≡ basis n → kwh + b ≡ sum (map basis (range_with_len 1 n))
more basis n kwh b low so_far is =
    let next = sum_by-map-range_with_len_more (λ x. x) basis 1 (n - 1) n (omega arith) in
    let same : n - 1 + 1 ≡ n = omega arith in
    omega (arith, next, ap (λ k. sum (map basis (range_with_len 1 k))) same)

pub loop-n-preserved : goal.loop-n-preserved
loop-n-preserved g c =
    let n : ℕ = c.loop-n.n in
    let basis : ℕ → ℕ = g.S.BasisSource.basis_of c.args.source.now in
    let most = based_most (line_at (g.S.LineSource.lines c.args.source.now) n) c.basis.result c.basis.ensures.based in
    let same : n + 1 - 1 ≡ n = omega arith in
    record {
      total = more basis n c.loop-n.kwh c.from-kwh.result c.loop-n.auto.n c.loop-n.invariant.total (c.from-kwh.ensures ∙ c.basis.ensures.value) ∙ ap (λ k. sum (map basis (range_with_len 1 k))) (sym same);
      small = omega (arith, most, c.loop-n.invariant.small, c.from-kwh.ensures);
      within = omega arith;
    }

pub returns-else-count-gt-MOST_LINES-clause-answer : goal.returns-else-count-gt-MOST_LINES-clause-answer
returns-else-count-gt-MOST_LINES-clause-answer g c =
    let basis : ℕ → ℕ = g.S.BasisSource.basis_of c.args.source.now in
    let all : c.loop-n.n - 1 ≡ c.count-count.result = omega (arith, c.loop-n.invariant.within) in
    ((omega arith, tt), c.loop-n.invariant.total ∙ ap (λ k. sum (map basis (range_with_len 1 k))) (all ∙ c.count-count.ensures))

pub returns-else-count-gt-MOST_LINES-2-clause-answer : goal.returns-else-count-gt-MOST_LINES-2-clause-answer
returns-else-count-gt-MOST_LINES-2-clause-answer g c =
    let n : ℕ = c.loop-n.n in
    let basis : ℕ → ℕ = g.S.BasisSource.basis_of c.args.source.now in
    let all : n ≡ c.count-count.result = omega arith in (
      (omega arith, tt),
      more basis n c.loop-n.kwh c.from-kwh.result c.loop-n.auto.n c.loop-n.invariant.total (c.from-kwh.ensures ∙ c.basis.ensures.value) ∙ ap (λ k. sum (map basis (range_with_len 1 k))) (all ∙ c.count-count.ensures),
    )
