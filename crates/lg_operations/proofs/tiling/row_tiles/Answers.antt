use Rattle.std.proofs.Common.{◌≡◌, ◌≤◌, length, ap, subst, sym, slice_get, Some}
use Rattle.std.specs.List.{flat_map}
use Rattle.lg_space.specs.Rectangle.{combinations, indices}
use Rattle.lg_shape.specs.Shapes.{whole}
use Rattle.lg_shape.specs.Tiling.{tiles}
use Rattle.lg_operations.proofs.Rows.{first_alone, rows_in_order, rows_axes}
use Rattle.lg_operations.proofs.tiling.row_tiles.Goals as goal

pub returns : goal.returns
returns c =
    let few : length c.args.shape.now ≤ 4 = c.extents-shape.ensures.shape.axes in
    let same : tiles c.args.pieces c.args.shape.now first_alone ≡ combinations c.colors.result = ap combinations (sym c.colors.ensures.value) in
    record {
      within = c.colors.ensures.partition.within;
      axes = subst (λ l. (k : _) (tile : _) → slice_get l k ≡ Some tile → length tile ≡ length (whole c.args.shape.now)) same (rows_axes c.args.pieces c.args.shape.now few);
      order = subst (λ l. flat_map indices l ≡ indices (whole c.args.shape.now)) same (rows_in_order c.args.pieces c.args.shape.now c.requires.some few);
    }
