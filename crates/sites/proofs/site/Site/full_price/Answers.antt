use Rattle.std.proofs.Common.{arith}
use borrow.Author.Differences.{ints}
use Rattle.sites.proofs.Values.{price_small}
use Rattle.sites.proofs.site.Site.full_price.Goals as goal

pub overflow_add-result : goal.overflow_add-result
overflow_add-result c = omega (arith, ints, price_small c.args.self.now c.args.bus.now c.args.slice c.requires.inside c.requires.bus c.requires.within)

pub overflow_add-result-2 : goal.overflow_add-result-2
overflow_add-result-2 c = omega (arith, ints, price_small c.args.self.now c.args.bus.now c.args.slice c.requires.inside c.requires.bus c.requires.within)

pub returns-clause-value : goal.returns-clause-value
returns-clause-value c = omega (arith, ints, price_small c.args.self.now c.args.bus.now c.args.slice c.requires.inside c.requires.bus c.requires.within)

pub returns-clause-small : goal.returns-clause-small
returns-clause-small c = omega (arith, ints, price_small c.args.self.now c.args.bus.now c.args.slice c.requires.inside c.requires.bus c.requires.within)
