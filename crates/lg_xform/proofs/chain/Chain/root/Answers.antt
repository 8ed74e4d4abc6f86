use Rattle.std.proofs.Common.{◌≡◌, length, rules}
use Rattle.lg_xform.proofs.Points.{mapped_inside}
use Rattle.lg_xform.proofs.chain.Chain.root.Goals as goal

pub returns-clause-inside : goal.returns-clause-inside
returns-clause-inside c = λ index h.
    let long : length c.args.self.now.axes ≡ 4 = search rules in
    let wide : length c.args.self.now.from ≡ 4 = search rules in
    mapped_inside c.args.self.now index long wide h
