use Rattle.lg_operations.proofs.Fits.{fits_more}
use Rattle.lg_operations.proofs.lending.items_fit.Goals as goal

pub loop-item-preserved : goal.loop-item-preserved
loop-item-preserved g c =
    fits_more g.T.Elem.DTYPE g.T.Elem.number c.items-item-items.result.now c.loop-item.item-index c.item-item.result c.value-number.result
    c.loop-item.invariant c.loop-item-test.true c.item-item.is c.value-number.ensures.value c.value-number.ensures.fits
