use Rattle.std.proofs.Common.{◌≡◌, ℕ, ◌<◌, ◌≤◌, length, get_or, take, Some, slice_get, sym, ap, ◌∙◌, subst, arith}
use Rattle.lg_space.specs.Rectangle.{IsIn, combinations, indices}
use Rattle.lg_space.proofs.Places.{volume_counts}
use Rattle.lg_shape.specs.Tiling.{part}
use Rattle.lg_part.specs.Grids.{axes_of}
use Rattle.lg_part.proofs.Grids.{IsWithinAxis, within_axis, count_tiles, ranges_of_color, color_storable}
use Rattle.lg_part.proofs.grid.Grid.tile.Goals as goal
use Rattle.lg_part.proofs.grid.Grid.tile.Goals.{In-loop-axis, After-loop-axis}

-- a colour is the place of an index of the rectangle of colours
pub unravel-numbers-requires : goal.unravel-numbers-requires
unravel-numbers-requires c =
    let g = c.self.inside in
    omega (arith, c.requires, ap (λ axes. length (combinations axes)) c.self.view_is, count_tiles g.shape g.sizes g.colors c.self.invariant.cut, volume_counts g.colors)

-- what is known of an axis in the loop
here : (c : In-loop-axis) → IsWithinAxis c.self.inside.shape c.self.inside.sizes c.coordinates-number-items.result.now c.loop-axis.axis
here c =
    let g = c.self.inside in
    let inside = subst (IsIn g.colors) (sym c.coordinates-number-items.ensures.value) c.unravel-numbers.ensures.inside in
    within_axis g.shape g.sizes g.colors c.coordinates-number-items.result.now c.loop-axis.axis c.self.invariant.cut c.extents-extents.ensures.shape inside c.loop-axis-test.true

pub overflow_mul-low : goal.overflow_mul-low
overflow_mul-low c = omega (arith, (here (goal.at.overflow_mul-low c).In-loop-axis).low)

pub bounds-extents-axis : goal.bounds-extents-axis
bounds-extents-axis c = omega (arith, (here (goal.at.bounds-extents-axis c).In-loop-axis).below, ap length c.extents-extents.ensures.value)

pub overflow_add-low : goal.overflow_add-low
overflow_add-low c = omega (arith, (here (goal.at.overflow_add-low c).In-loop-axis).high)

-- the ranges of all axes are the tile of the colour
at_end : (c : After-loop-axis) → slice_get (combinations (axes_of c.self.inside.shape c.self.inside.sizes c.self.inside.colors)) c.args.color ≡ Some (take (length c.extents-extents.result.now) c.loop-axis.ranges)
at_end c =
    let g = c.self.inside in
    let items = c.coordinates-number-items.result.now in
    let same = c.coordinates-number-items.ensures.value in
    let extents = c.extents-extents.ensures.value in
    let inside = subst (IsIn g.colors) (sym same) c.unravel-numbers.ensures.inside in
    let at : slice_get (indices g.colors) c.args.color ≡ Some items =
    ap (slice_get (indices g.colors)) (sym c.from.ensures) ∙ c.unravel-numbers.ensures.place ∙ ap Some (sym same)
    in
    let long : length g.shape ≤ length c.loop-axis.ranges = omega (arith, c.self.invariant.few) in
    let each : (k : ℕ) → k < length items → get_or c.loop-axis.ranges k (0, 0) ≡ part (get_or g.shape k 0) (get_or g.sizes k 0) (get_or items k 0) =
    λ k below. c.loop-axis.invariant.written k (omega arith) ∙ ap (λ xs. part (get_or xs k 0) (get_or g.sizes k 0) (get_or items k 0)) extents
    in
    ranges_of_color g.shape g.sizes g.colors c.args.color items c.loop-axis.ranges c.self.invariant.cut long inside at each ∙ ap (λ xs. Some (take (length xs) c.loop-axis.ranges)) (sym extents)

pub new-requires : goal.new-requires
new-requires c =
    let g = c.self.inside in
    color_storable g.shape g.sizes g.colors c.args.color _ c.self.invariant.cut c.extents-extents.ensures.shape c.self.invariant.small (at_end (goal.at.new-requires c).After-loop-axis)

pub returns : goal.returns
returns c =
    ap (λ axes. slice_get (combinations axes) c.args.color) (sym c.self.view_is) ∙ at_end (goal.at.returns c).After-loop-axis ∙ ap Some (sym c.new.ensures)
