use Rattle.std.proofs.Common.{rules, ◌≡◌, ap, ◌∙◌, ◌++◌}
use Rattle.std.proofs.lemmas.Result.{on_ok_weaker}
use Rattle.std.proofs.lemmas.Option.{IfSome_then}
use Rattle.std.proofs.lemmas.Fmt.{contents_after_writes}
use Rattle.text.proofs.answers.Answers.write_fmt.Goals as goal

pub returns-in-Ok-clause-items : goal.returns-in-Ok-clause-items
returns-in-Ok-clause-items g c =
    let old = c.args.self.now.text.items in
    on_ok_weaker c.put.result
    (λ (put : c.put.new.self.text.items ≡ old ++ c.write_fmt.new.self.bytes). IfSome_then (g.D.Display.output c.args.words) c.in-Ok.ensures.writes (λ bs wrote. put ∙ ap (λ l. old ++ l) (contents_after_writes _ (λ s. s.bytes) (λ w l v t. t) _ bs _ wrote ∙ ap (λ l. l ++ bs) c.new-line.ensures)))
    (search rules)
