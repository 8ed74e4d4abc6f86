-- What of an operation's inputs is read over one tile of the result. Only private functions speak
-- of it.
use Rattle.std.specs.Prelude.{◌≡◌, ℕ, List, [], ◌∷◌, ℤ, ⊤}
use Rattle.lg_space.specs.Rectangle.{IsIn}
use Rattle.lg_tile.specs.declared.any_tile.AnyTile.{AnyTile}
use Rattle.lg_tile.specs.Sections.{Covers}
use Rattle.lg_tile.specs.Tiles.{number_at, rect_of}
use Rattle.lg_operations.specs.Lending.{lent_at}
use Rattle.lg_operations.specs.declared.lending.Lent.{Lent}
use Rattle.lg_operations.specs.declared.lending.Lent.TheVariants.{Number, Tile, Viewed}
use Rattle.lg_operations.specs.declared.parts.Part.{Part}
use Rattle.lg_operations.specs.declared.parts.Part.TheVariants.{Lying, Gathered}

abbrev pub part_tile : Part → AnyTile
part_tile (Lying tile) = tile.now
part_tile (Gathered tile) = tile

abbrev pub tiles_of : Part → Part → Part → List AnyTile
tiles_of first second third = part_tile first ∷ part_tile second ∷ part_tile third ∷ []

-- the tile has at each index of the rectangle this number
pub record Shows (rect : List (ℕ × ℕ)) (number : List ℕ → ℤ) (tile : AnyTile) : Type 0 where
  pub covers : Covers (rect_of tile) rect
  pub same : (index : List ℕ) → IsIn rect index → number_at tile index ≡ number index

-- the tile can be read in place of what is lent. In place of a number nothing is read
abbrev pub IsPartOf : List (ℕ × ℕ) → Lent → AnyTile → Type 0
IsPartOf rect (Number x) tile = ⊤
IsPartOf rect (Tile lent) tile = Shows rect (lent_at (Tile lent)) tile
IsPartOf rect (Viewed lent chain) tile = Shows rect (lent_at (Viewed lent chain)) tile
