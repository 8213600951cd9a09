use Rattle.sites.proofs.Totals.{slice_more}
use Rattle.sites.proofs.site.Site.weighed_price.Goals as goal

pub loop-slice-preserved : goal.loop-slice-preserved
loop-slice-preserved c =
    slice_more _ _ c.loop-slice.slice _ c.slice_price-total.result c.slices-seconds-items.ensures.quarter.whole c.loop-slice-test.true c.loop-slice.invariant c.slice_price-total.ensures.value c.slice_price-total.ensures.small
