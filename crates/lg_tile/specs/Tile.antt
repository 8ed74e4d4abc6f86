-- What contracts see of a tile whose element type is known.
use Rattle.std.specs.Prelude.{ℕ, List}
use Rattle.lg_tile.specs.declared.tile.Tile.{Tile}

-- the rectangle, as the list of its ranges
abbrev pub tile_rect : {T : Type 0} → Tile T → List (ℕ × ℕ)
tile_rect t = t.rect

-- the elements, in row-major order of the rectangle
abbrev pub tile_items : {T : Type 0} → Tile T → List T
tile_items t = t.items.items
