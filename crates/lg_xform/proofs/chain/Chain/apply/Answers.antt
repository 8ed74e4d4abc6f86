use Rattle.std.proofs.Common.{◌≡◌, length, rules}
use Rattle.lg_xform.proofs.Maps.{layout_after}
use Rattle.lg_xform.proofs.Dense.{dense_after}
use Rattle.lg_xform.proofs.chain.Chain.apply.Goals as goal

pub returns-clause-layout : goal.returns-clause-layout
returns-clause-layout c = layout_after c.args.step.now c.args.self.now c.stepped.result c.requires.step_of c.stepped.ensures

pub returns-clause-dense : goal.returns-clause-dense
returns-clause-dense c =
    let wide : length c.args.self.now.from ≡ 4 = search rules in
    dense_after c.args.step.now c.args.self.now c.stepped.result wide c.requires c.stepped.ensures
