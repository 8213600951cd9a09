use Rattle.std.proofs.lemmas.Result.{err_from_is_err_and}
use Rattle.text.proofs.Items.{first_of}
use Rattle.text.proofs.lists.read_list.Goals as goal

pub returns-in_err-push-clause-stopped : goal.returns-in_err-push-clause-stopped
returns-in_err-push-clause-stopped g c =
    let told = err_from_is_err_and c.from_residual-in_err-push.result c.from_residual-in_err-push.ensures.1 in
    rw (told.1, told.2, c.in_err-push.ensures.items) (_, first_of _ _ _ _ c.loop-left.invariant.front c.loop-left.invariant.more)
