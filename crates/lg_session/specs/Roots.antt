-- The roots of the code, as the definitions see them.
use Rattle.std.specs.Prelude.{ℕ, Option, None, option_map, unwrap_or, slice_get}
use Rattle.lg_meaning.specs.Memory.{Root}
use Rattle.lg_tile.specs.declared.any_tile.AnyTile.{AnyTile}
use Rattle.lg_tile.specs.Tiles.{dtype_of, numbers}
use Rattle.lg_operations.specs.Operations.{extents_of}
use Rattle.lg_session.specs.declared.roots.Roots.{Roots}
use Rattle.lg_session.specs.declared.roots.WholeTile.{WholeTile}

-- a whole tile as a root
abbrev pub root_of : AnyTile → Root
root_of tile = record { dtype = dtype_of tile; shape = extents_of tile; numbers = numbers tile }

-- the root with each number
abbrev pub contents : Roots → ℕ → Option Root
contents roots root =
    option_map (λ (whole : WholeTile). root_of whole.tile)
    (unwrap_or (slice_get roots.tiles.items root) None)
