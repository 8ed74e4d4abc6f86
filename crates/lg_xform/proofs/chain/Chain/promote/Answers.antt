use Rattle.std.proofs.Common.{◌≡◌, length, refl, rules}
use Rattle.lg_xform.proofs.Edits.{promote_room, promoted_view, promoted}
use Rattle.lg_xform.proofs.chain.Chain.promote.Goals as goal

pub invariant_of-result : goal.invariant_of-result
invariant_of-result c =
    let long : length c.args.self.now.axes ≡ 4 = search rules in
    let room = promote_room c.args.self.now c.args.axis c.args.extent long c.requires in
    let v = promoted_view c.args.self.now c.args.axis c.args.extent long c.requires _ c.with_axis.ensures in
    record {
      few = room;
      rooted = v.rooted;
      shape = v.shape;
      root_shape = c.args.self.now.root_shape;
      held = v.held;
      filled = v.filled;
    }

pub returns : goal.returns
returns c =
    let long : length c.args.self.now.axes ≡ 4 = search rules in
    promoted c.args.self.now c.args.axis c.args.extent long c.requires _ refl refl c.with_axis.ensures
