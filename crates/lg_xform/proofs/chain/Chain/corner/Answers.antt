use Rattle.std.proofs.Common.{◌≡◌, ◌∙◌, ℕ, ◌<◌, ◌≤◌, length, get_or, sym, ap, subst, arith, rules}
use Rattle.std.proofs.lemmas.List.{length-set, get_or-take}
use Rattle.std.proofs.lemmas.Option.{get_or_from_slice_get}
use Rattle.lg_space.specs.declared.point.TheConstants.{MAX_AXES}
use Rattle.lg_xform.specs.declared.axis.ViewAxis.{ViewAxis}
use Rattle.lg_xform.specs.Corners.{end_of}
use Rattle.lg_xform.specs.Chains.{axes_of}
use Rattle.lg_xform.proofs.Edits.{none, length-axes_of, length-shape_of}
use Rattle.lg_xform.proofs.Corners.{range_some, corner_more, corner_all}
use Rattle.lg_xform.proofs.chain.Chain.corner.Goals as goal

pub end-requires : goal.end-requires
end-requires c =
    let self = c.args.self.now in
    let long : length self.axes ≡ 4 = search rules in
    let some = range_some c.args.tile.now c.loop-k.k c.range.result c.requires.some (omega (arith, c.loop-k-test.true, c.requires.axes, length-shape_of self, length-axes_of self long)) in
    let range = get_or_from_slice_get c.args.tile.now c.loop-k.k c.range.result c.range.result c.range.ensures in
    let there = subst (λ (r : ℕ × ℕ). r.0 < r.1) range some in
    omega (arith, there)

pub loop-k-preserved : goal.loop-k-preserved
loop-k-preserved c =
    let self = c.args.self.now in
    let long : length self.axes ≡ 4 = search rules in
    let few : self.count ≤ MAX_AXES = self.few in
    let k = c.loop-k.k in
    let this : get_or self.axes k none ≡ get_or (axes_of self) k none = sym (get_or-take self.count self.axes k none c.loop-k-test.true) in
    record {
      room = length-set c.loop-k.at k _ ∙ c.loop-k.invariant.room;
      so_far = corner_more c.args.far (axes_of self) c.args.tile.now c.loop-k.at k c.end.result c.range.result none (c.requires.axes ∙ length-shape_of self)
          (omega (arith, c.loop-k-test.true, length-axes_of self long)) (omega (arith, c.loop-k-test.true, few, c.loop-k.invariant.room))
          (sym (get_or_from_slice_get c.args.tile.now k c.range.result c.range.result c.range.ensures))
          (c.end.ensures ∙ ap (λ (a : ViewAxis). end_of c.args.far a.down c.range.result) this) c.loop-k.invariant.so_far;
    }

pub returns : goal.returns
returns c =
    let self = c.args.self.now in
    let long : length self.axes ≡ 4 = search rules in
    c.new.ensures ∙ corner_all self c.args.far c.args.tile.now c.loop-k.at c.loop-k.k long c.requires.axes c.loop-k-test.false c.loop-k.auto.k-end c.loop-k.invariant.so_far
