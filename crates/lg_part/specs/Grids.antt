-- What is kept of a shape that is cut into tiles.
use Rattle.std.specs.Prelude.{◌≡◌, ℕ, ◌-◌, ◌*◌, ◌^◌, ◌<◌, ◌≤◌, max, List, [], ◌∷◌, length, map}
use Rattle.lg_space.specs.Rectangle.{numbers_in, volume_of}
use Rattle.lg_space.specs.declared.point.TheConstants.{MAX_AXES}
use Rattle.lg_space.specs.Stored.{MAX_VOLUME}
use Rattle.lg_shape.specs.Shapes.{size_of}
use Rattle.lg_shape.specs.Tiling.{part}

-- the parts of each axis, by the extent of the axis, the extent of a part and the numbers of the
-- parts
abbrev pub axes_of : List ℕ → List ℕ → List (ℕ × ℕ) → List (List (ℕ × ℕ))
axes_of (extent ∷ shape) (size ∷ sizes) (numbers ∷ colors) =
    map (part extent size) (numbers_in numbers) ∷ axes_of shape sizes colors
axes_of shape sizes colors = []

-- an axis of this extent is cut into so many parts of this size, which is at least 1 and, where the
-- extent is not 0, at most the extent. There is at least one part, and none begins behind the end
pub record IsCutAxis (extent size : ℕ) (numbers : ℕ × ℕ) : Type 0 where
  pub from_0 : numbers.0 ≡ 0
  pub some : 1 ≤ numbers.1
  pub size_some : 1 ≤ size
  pub size_most : size ≤ max extent 1
  pub reaches : extent ≤ numbers.1 * size
  pub begins : (numbers.1 - 1) * size ≤ extent

-- each axis is cut. There may be more sizes than axes
abbrev pub IsCutShape : List ℕ → List ℕ → List (ℕ × ℕ) → Type 0
IsCutShape [] sizes [] = Unit {0}
IsCutShape (extent ∷ shape) (size ∷ sizes) (numbers ∷ colors) =
    IsCutAxis extent size numbers × IsCutShape shape sizes colors
IsCutShape shape sizes colors = ⊥

-- the cut of a shape with up to four axes
pub record IsGrid (shape sizes : List ℕ) (colors : List (ℕ × ℕ)) : Type 0 where
  pub few : length shape ≤ MAX_AXES
  pub cut : IsCutShape shape sizes colors
  pub small : size_of shape ≤ MAX_VOLUME
  pub few_tiles : volume_of colors < 2 ^ 32
