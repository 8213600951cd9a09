use Rattle.text.proofs.Items.{cut_first}
use Rattle.text.proofs.lists.first_number.Goals as goal

pub returns-in-Some-clause-others : goal.returns-in-Some-clause-others
returns-in-Some-clause-others g c = cut_first c.args.items.now c.in-Some.rest.now c.others.result c.in-Some.ensures.rest c.others.ensures

pub returns-clause-others : goal.returns-clause-others
returns-clause-others g c = cut_first c.args.items.now c.first_text.result.1.now c.others-2.result c.first_text.ensures.rest c.others-2.ensures
