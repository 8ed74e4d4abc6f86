-- What holds of every tile.
use Rattle.std.specs.Prelude.{◌≡◌, length}
use Rattle.lg_space.specs.Rectangle.{volume_of}
use Rattle.lg_tile.specs.declared.any_tile.AnyTile.{AnyTile}
use Rattle.lg_tile.specs.Tiles.{numbers, rect_of}

-- there are as many numbers as the rectangle has indices
abbrev pub AreFull : Type 0
AreFull = (tile : AnyTile) → length (numbers tile) ≡ volume_of (rect_of tile)
