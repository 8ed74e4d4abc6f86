use Rattle.std.proofs.Common.{IsTrue, subst}
use Rattle.lg_operations.specs.Gathering.{AreRows}
use Rattle.lg_operations.proofs.Gatherings.{rows_whole, from_some}
use Rattle.lg_operations.proofs.gathering.is_in_rows.Goals as goal

pub returns-then-strides-eq0 : goal.returns-then-strides-eq0
returns-then-strides-eq0 c = λ there.
    rows_whole c.args.chain.now c.args.root.now c.whole-all.result c.strides-strides.result.base c.strides-strides.result.axes c.requires.root c.requires.shape c.whole-all.ensures c.if-strides-eq0.true
    (subst (AreRows c.strides-strides.result.axes) c.extents.ensures.value (from_some c.rows_of.result (subst IsTrue c.is_some.ensures there) c.rows_of.ensures.rows)) c.strides-strides.ensures.places
