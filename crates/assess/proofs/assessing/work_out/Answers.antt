use Rattle.std.proofs.Common.{◌≡◌, ◌-◌, ◌<◌, length, get_or, take, pos, ap, ◌∙◌, arith, rules}
use Rattle.std.proofs.lemmas.List.FromFn.{length-map-range_with_len}
use Rattle.std.proofs.lemmas.List.{length-take-le, get_or_append_left}
use Rattle.walk.specs.Totals.{sum_for, party_sums}
use Rattle.assess.proofs.Walks.{sum_at}
use Rattle.assess.proofs.assessing.work_out.Goals as goal

pub returns-clause-paid : goal.returns-clause-paid
returns-clause-paid g c p h =
    let ls = g.S.LineSource.lines c.args.source.now in
    let many : length (take c.args.parties c.args.paid.now) ≡ c.args.parties = length-take-le c.args.parties c.args.paid.now c.requires.room in
    let sums : c.walk.new.paid ≡ party_sums (length (take c.args.parties c.args.paid.now)) ls = search rules in
    let long : p - 1 < length c.walk.new.paid = rw sums (omega (arith, many, length-map-range_with_len (λ q. sum_for q ls) 1 (length (take c.args.parties c.args.paid.now)), h)) in
    get_or_append_left c.walk.new.paid _ (pos 0) (p - 1) long ∙ ap (λ l. get_or l (p - 1) (pos 0)) sums ∙ rw many (sum_at c.args.parties ls p h)
