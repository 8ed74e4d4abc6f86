use Rattle.std.proofs.Common.{◌≡◌, ◌≤◌, false, length, get_or, take, sym, ap, ◌∙◌, subst, arith}
use Rattle.lg_space.specs.Rectangle.{IsIn, combinations}
use Rattle.lg_space.specs.Partition.{Partitions}
use Rattle.lg_space.specs.Stored.{IsStorable}
use Rattle.lg_shape.specs.Shapes.{whole}
use Rattle.lg_shape.proofs.Tilings.{combinations_partition}
use Rattle.lg_part.specs.Grids.{axes_of, IsGrid}
use Rattle.lg_part.proofs.Grids.{axes_cut}
use Rattle.lg_part.proofs.Cutting.{IsRuleCut, IsCutSoFar, whole_chosen, cut_chosen, cut_more, at_last, all_cut, all_rule, all_storable, all_kept}
use Rattle.lg_part.proofs.grid.colors.Goals as goal
use Rattle.lg_part.proofs.grid.colors.Goals.{then-whole-axis, else-whole-axis, After-loop-axis, After-new}

pub loop-axis-preserved : goal.loop-axis-preserved
loop-axis-preserved c =
    let extents = c.extents-extents.result.now in
    let extent = get_or extents c.loop-axis.axis 0 in
    let is_whole = get_or c.args.whole.now c.loop-axis.axis false in
    let size = c.if-whole-axis.size in
    let count = c.count_of_parts-count.result in
    let some = c.loop-axis.invariant.some in
    let here : IsRuleCut c.loop-axis.left extent is_whole size count =
    elim c.if-whole-axis.branch [
      | then-whole-axis w ↦ whole_chosen c.loop-axis.left extent is_whole size count some w.if-whole-axis.true (w.size-is ∙ w.max-size.ensures) c.count_of_parts-count.ensures
      | else-whole-axis w ↦ cut_chosen c.loop-axis.left extent is_whole size count some w.if-whole-axis.false (w.size-is ∙ w.size_of_parts-size.ensures) c.count_of_parts-count.ensures
    ]
    in
    let few : length extents ≤ 4 = omega (arith, ap length c.extents-extents.ensures.value, c.extents-extents.ensures.shape.axes) in
    let known : length c.args.whole.now ≡ 4 = omega arith in
    cut_more c.args.pieces extents c.args.whole.now c.loop-axis.axis c.loop-axis.sizes c.loop-axis.numbers c.loop-axis.left size count c.loop-axis.invariant c.loop-axis-test.true few known here

-- all axes are cut
cut : (c : After-loop-axis) → IsCutSoFar c.args.pieces c.args.shape.now c.args.whole.now (length c.args.shape.now) c.loop-axis.sizes c.loop-axis.numbers c.loop-axis.left
cut c =
    let all = at_last c.args.pieces c.extents-extents.result.now c.args.whole.now c.loop-axis.axis c.loop-axis.sizes c.loop-axis.numbers c.loop-axis.left c.loop-axis.invariant (omega arith) in
    subst (λ xs. IsCutSoFar c.args.pieces xs c.args.whole.now (length xs) c.loop-axis.sizes c.loop-axis.numbers c.loop-axis.left) c.extents-extents.ensures.value all

pub new-requires : goal.new-requires
new-requires c =
    let h = cut (goal.at.new-requires c).After-loop-axis in
    subst (λ xs. IsStorable (take (length xs) c.loop-axis.numbers)) (sym c.extents-extents.ensures.value)
    (all_storable c.args.pieces c.args.shape.now c.args.whole.now c.loop-axis.sizes c.loop-axis.numbers c.loop-axis.left h c.extents-extents.ensures.shape c.requires.few)

-- the numbers of the parts are kept
kept : (c : After-new) → c.new.result ≡ take (length c.args.shape.now) c.loop-axis.numbers
kept c = c.new.ensures ∙ ap (λ xs. take (length xs) c.loop-axis.numbers) c.extents-extents.ensures.value

pub invariant_of-result : goal.invariant_of-result
invariant_of-result c =
    let h = cut (goal.at.invariant_of-result c).After-loop-axis in
    subst (IsGrid c.args.shape.now c.loop-axis.sizes) (sym (kept c))
    (all_kept c.args.pieces c.args.shape.now c.args.whole.now c.loop-axis.sizes c.loop-axis.numbers c.loop-axis.left h c.extents-extents.ensures.shape c.requires.few c.requires.small)

pub returns-clause-value : goal.returns-clause-value
returns-clause-value c =
    let h = cut (goal.at.returns-clause-value c).After-loop-axis in
    ap (axes_of c.args.shape.now c.loop-axis.sizes) (kept c) ∙ all_rule c.args.pieces c.args.shape.now c.args.whole.now c.loop-axis.sizes c.loop-axis.numbers c.loop-axis.left h

pub returns-clause-partition : goal.returns-clause-partition
returns-clause-partition c =
    let h = cut (goal.at.returns-clause-partition c).After-loop-axis in
    let axes = axes_of c.args.shape.now c.loop-axis.sizes (take (length c.args.shape.now) c.loop-axis.numbers) in
    let is_cut = all_cut c.args.pieces c.args.shape.now c.args.whole.now c.loop-axis.sizes c.loop-axis.numbers c.loop-axis.left h in
    subst (λ colors. Partitions (combinations (axes_of c.args.shape.now c.loop-axis.sizes colors)) (IsIn (whole c.args.shape.now))) (sym (kept c))
    (combinations_partition axes c.args.shape.now (axes_cut c.args.shape.now c.loop-axis.sizes (take (length c.args.shape.now) c.loop-axis.numbers) is_cut))
