-- How the code keeps the roots: a tile for each. Contracts say what stands in the memory by
-- `contents` alone.
use Rattle.std.specs.Prelude.{None, option_map, unwrap_or, slice_get}
use Rattle.lg_instance.specs.Contents.{Memory, as_root}
use Rattle.lg_instance.specs.declared.instances.Instances.{Instances}
use Rattle.lg_instance.specs.declared.instances.WholeTile.{WholeTile}

-- the root with each number
abbrev pub contents : Instances → Memory
contents instances root =
    option_map (λ (whole : WholeTile). as_root whole.tile)
    (unwrap_or (slice_get instances.tiles.items root) None)
