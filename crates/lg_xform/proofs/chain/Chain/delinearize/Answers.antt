use Rattle.std.proofs.Common.{◌≡◌, ◌≤◌, List, ℕ, false, length, min, refl, ap, ◌∙◌, arith, rules}
use Rattle.lg_space.specs.declared.point.TheConstants.{MAX_AXES}
use Rattle.lg_shape.specs.Shapes.{size_of}
use Rattle.lg_xform.specs.Moves.{rows_of}
use Rattle.lg_xform.proofs.Splits.{split_view, split_map}
use Rattle.lg_xform.proofs.chain.Chain.delinearize.Goals as goal

pub invariant_of-result : goal.invariant_of-result
invariant_of-result c =
    let old = c.args.self.now in
    let wide : length old.from ≡ 4 = search rules in
    let e = c.extents-extents.ensures.value in
    let axes = c.rows.ensures ∙ ap (λ (s : List ℕ). rows_of (min 1 (size_of s)) false s) e in
    let v = split_view old c.args.sizes.now wide c.requires _ axes in
    let few : length c.extents-extents.result.now ≤ MAX_AXES = omega (arith, ap length e, c.extents-extents.ensures.shape.axes) in
    record {
      few = few;
      rooted = v.rooted;
      shape = v.shape;
      root_shape = old.root_shape;
      held = v.held;
      filled = v.filled;
    }

pub returns : goal.returns
returns c =
    let old = c.args.self.now in
    let wide : length old.from ≡ 4 = search rules in
    let e = c.extents-extents.ensures.value in
    let axes = c.rows.ensures ∙ ap (λ (s : List ℕ). rows_of (min 1 (size_of s)) false s) e in
    split_map old c.args.sizes.now wide c.requires _ refl refl axes
