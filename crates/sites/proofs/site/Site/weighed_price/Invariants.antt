use Rattle.std.proofs.Common.{◌≡◌, ◌*◌, ◌≤◌, map, sum, take, get_or, pos, ◌*ℤ◌, nat_abs}
use Rattle.std.specs.List.{range_with_len}
use Rattle.numbers.specs.Sums.{signed_total}
use Rattle.sites.specs.Sites.{full_price}
use Rattle.sites.proofs.site.Site.weighed_price.Given as goal

abbrev pub invariant-loop-slice : goal.invariant-loop-slice
invariant-loop-slice l = (l.total ≡ signed_total (map (λ k. full_price l.fn.self.adders.now l.fn.bus k *ℤ pos (get_or l.seconds-items k 0)) (range_with_len 0 l.slice)))
    × (nat_abs l.total ≤ 3000000 * sum (take l.slice l.seconds-items))
