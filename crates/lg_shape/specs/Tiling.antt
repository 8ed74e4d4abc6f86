-- How a shape is cut into tiles, where so many pieces are wanted. This project's own.
use Rattle.std.specs.Prelude.{ℕ, ◌+◌, ◌-◌, ◌*◌, ◌/◌, min, max, Bool, true, false, List, [], ◌∷◌, map}
use Rattle.std.specs.List.{range_with_len}
use Rattle.lg_space.specs.Rectangle.{combinations}

-- the quotient, rounded up
abbrev pub ceiling : ℕ → ℕ → ℕ
ceiling a b = (a + (b - 1)) / b

-- the extent of a part, where an axis of this extent is to have so many parts: no part but an only
-- one is empty
abbrev pub part_extent : ℕ → ℕ → ℕ
part_extent pieces extent = max 1 (ceiling extent (min pieces (max extent 1)))

-- how many parts of that extent the axis has
abbrev pub part_count : ℕ → ℕ → ℕ
part_count pieces extent = max 1 (ceiling extent (part_extent pieces extent))

-- one of the parts of an axis. The last one ends with the axis
abbrev pub part : ℕ → ℕ → ℕ → ℕ × ℕ
part extent size number = (number * size, min extent ((number + 1) * size))

-- the parts of an axis, upwards
abbrev pub parts : ℕ → ℕ → List (ℕ × ℕ)
parts pieces extent =
    map (part extent (part_extent pieces extent)) (range_with_len 0 (part_count pieces extent))

-- the parts of each axis, from the first axis on: a whole axis has one part, and what an axis takes
-- of the pieces is not there for the axes behind it
abbrev pub axis_parts : ℕ → List ℕ → List Bool → List (List (ℕ × ℕ))
axis_parts pieces [] whole = []
axis_parts pieces (extent ∷ shape) (true ∷ whole) =
    ((0, extent) ∷ []) ∷ axis_parts pieces shape whole
axis_parts pieces (extent ∷ shape) (false ∷ whole) =
    parts pieces extent ∷ axis_parts (pieces / part_count pieces extent) shape whole
axis_parts pieces (extent ∷ shape) [] =
    parts pieces extent ∷ axis_parts (pieces / part_count pieces extent) shape []

-- the tiles: all combinations of parts, in row-major order. The number of a tile in this list is
-- its colour
abbrev pub tiles : ℕ → List ℕ → List Bool → List (List (ℕ × ℕ))
tiles pieces shape whole = combinations (axis_parts pieces shape whole)
