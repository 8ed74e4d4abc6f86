use Rattle.std.proofs.Common.{◌≡◌, length, refl, rules}
use Rattle.lg_xform.proofs.Edits.{none, order_below, turned_axes, turned_view, turned_map}
use Rattle.lg_xform.proofs.chain.Chain.transpose.Goals as goal

pub reordered-requires-clause-below : goal.reordered-requires-clause-below
reordered-requires-clause-below c =
    let old = c.args.self.now in
    let long : length old.axes ≡ 4 = search rules in
    order_below old c.args.order.now none long c.requires

pub invariant_of-result : goal.invariant_of-result
invariant_of-result c =
    let old = c.args.self.now in
    let long : length old.axes ≡ 4 = search rules in
    let four : length c.reordered.result ≡ 4 = search rules in
    let axes = turned_axes old c.args.order.now none long c.requires c.reordered.result four c.reordered.ensures in
    let v = turned_view old c.args.order.now none long c.requires _ axes in
    record {
      few = old.few;
      rooted = v.rooted;
      shape = v.shape;
      root_shape = old.root_shape;
      held = v.held;
      filled = v.filled;
    }

pub returns : goal.returns
returns c =
    let old = c.args.self.now in
    let long : length old.axes ≡ 4 = search rules in
    let four : length c.reordered.result ≡ 4 = search rules in
    let axes = turned_axes old c.args.order.now none long c.requires c.reordered.result four c.reordered.ensures in
    turned_map old c.args.order.now none long c.requires _ refl refl axes
