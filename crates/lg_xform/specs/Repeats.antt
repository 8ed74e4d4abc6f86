-- A view that is repeated to another shape. After NumPy's reference, "numpy.broadcast_to" and
-- "Broadcasting".
use Rattle.std.specs.Prelude.{ℕ, List, map}
use Rattle.lg_shape.specs.Shapes.{places, aligned}
use Rattle.lg_shape.specs.Views.{Layout, place_at}

-- at each index the repeated view has the place that belongs to the index where the shapes are
-- aligned
abbrev pub repeated : List ℕ → Layout → Layout
repeated to layout = record {
  shape = to;
  places = map (λ index. place_at layout (aligned layout.shape index)) (places to);
}
