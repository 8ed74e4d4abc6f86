use Rattle.lg_operations.proofs.Literals.{truths_more}
use Rattle.lg_operations.proofs.written.are_truths.Goals as goal

pub loop-w-preserved : goal.loop-w-preserved
loop-w-preserved c = truths_more c.args.weaks.now c.loop-w.w-index _ c.loop-w.all c.is_truth-all.result c.loop-w-test.true c.loop-w.invariant c.is_truth-all.ensures
