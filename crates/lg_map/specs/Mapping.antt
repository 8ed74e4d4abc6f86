-- What an elementwise operation gives at each index of a rectangle. After NumPy's reference,
-- "Universal functions (ufunc)", "numpy.where", "numpy.full", "numpy.arange" and "numpy.array".
use Rattle.std.specs.Prelude.{◌≡◌, ℕ, ◌^◌, ◌-◌, ◌≤◌, List, [], ◌∷◌, length, map, Option, Some, None, All, slice_get, slice_index, slice_index_or, ℤ, pos, neg_ℤ, ◌+ℤ◌, ◌≤ℤ◌, if◌then◌else◌}
use Rattle.std.specs.Int.{from_bool}
use Rattle.std.specs.Option.{IsSomeAnd}
use Rattle.lg_elem.specs.declared.dtype.DType.{DType}
use Rattle.lg_elem.specs.declared.dtype.DType.TheVariants.{Bool as Truth}
use Rattle.lg_elem.specs.declared.kinds.Flag.{Flag}
use Rattle.lg_elem.specs.declared.kinds.Flag.TheVariants as flags
use Rattle.lg_elem.specs.Types.{wrap}
use Rattle.lg_elem.specs.Operations.{unary_of, value_of, flag_of, compare_of, is_zero}
use Rattle.lg_space.specs.Rectangle.{indices}
use Rattle.lg_space.specs.Stored.{MAX_VOLUME}
use Rattle.lg_shape.specs.Shapes.{whole, size_of, place_of}
use Rattle.lg_tile.specs.declared.any_tile.AnyTile.{AnyTile}
use Rattle.lg_tile.specs.Sections.{Covers}
use Rattle.lg_tile.specs.Tiles.{dtype_of, number_at, numbers, rect_of}
use Rattle.lg_map.specs.declared.operation.Operand.{Operand}
use Rattle.lg_map.specs.declared.operation.Operand.TheVariants.{Input, Constant}
use Rattle.lg_map.specs.declared.operation.MapOp.{MapOp}
use Rattle.lg_map.specs.declared.operation.MapOp.TheVariants as ops

-- the number of a tile at an index, where there is a tile
abbrev pub input_at : Option AnyTile → List ℕ → ℤ
input_at None index = pos 0
input_at (Some tile) index = number_at tile index

-- the number that an operand has at an index: its tile's, or its own at each
abbrev pub operand_at : List AnyTile → Operand → List ℕ → ℤ
operand_at tiles (Input k) index = input_at (slice_get tiles k) index
operand_at tiles (Constant x) index = x

-- the number of the result at an index. Operands are wrapped to the result's type first, but for a
-- comparison, which goes by their own numbers
abbrev pub map_value : MapOp → DType → List AnyTile → List ℕ → ℤ
map_value (ops.Unary op x) t tiles index = unary_of op t (wrap t (operand_at tiles x index))
map_value (ops.Binary op x y) t tiles index =
    value_of op t (wrap t (operand_at tiles x index)) (wrap t (operand_at tiles y index))
map_value (ops.Compare op x y) t tiles index =
    pos (from_bool (compare_of op (operand_at tiles x index) (operand_at tiles y index)))
map_value (ops.Select choice x y) t tiles index =
    if is_zero (operand_at tiles choice index) then wrap t (operand_at tiles y index)
    else wrap t (operand_at tiles x index)
map_value (ops.Cast x) t tiles index = wrap t (operand_at tiles x index)
map_value (ops.Fill x) t tiles index = wrap t x
map_value (ops.Count x) t tiles index = wrap t (x +ℤ pos (slice_index index 0))
map_value (ops.List shape list) t tiles index =
    wrap t (slice_index_or list (place_of shape index) (pos 0))

-- the flag of the operation at an index
abbrev pub map_flag : MapOp → DType → List AnyTile → List ℕ → Flag
map_flag (ops.Binary op x y) t tiles index = flag_of op (wrap t (operand_at tiles y index))
map_flag op t tiles index = flags.Clear

-- the first flag that is not clear, and clear where there is none
abbrev pub first_flag : List Flag → Flag
first_flag [] = flags.Clear
first_flag (flags.Clear ∷ rest) = first_flag rest
first_flag (flag ∷ rest) = flag

-- the result's numbers, in row-major order, and its flag
abbrev pub map_values : MapOp → DType → List AnyTile → List (ℕ × ℕ) → List ℤ
map_values op t tiles rect = map (map_value op t tiles) (indices rect)

abbrev pub map_flags : MapOp → DType → List AnyTile → List (ℕ × ℕ) → Flag
map_flags op t tiles rect = first_flag (map (map_flag op t tiles) (indices rect))

-- the tile and the flag are those of the operation over this rectangle
abbrev pub Maps : MapOp → DType → List AnyTile → List (ℕ × ℕ) → AnyTile × Flag → Type 0
Maps op t tiles rect answer =
    (dtype_of answer.0 ≡ t) × (rect_of answer.0 ≡ rect)
    × (numbers answer.0 ≡ map_values op t tiles rect) × (answer.1 ≡ map_flags op t tiles rect)

-- a number that a script can write for an operand
abbrev pub IsConstant : ℤ → Type 0
IsConstant x = (neg_ℤ (pos (2 ^ 63)) ≤ℤ x) × (x ≤ℤ pos (2 ^ 64 - 1))

-- there is such a tile, and it has every index of the rectangle
abbrev pub HasInput : List AnyTile → List (ℕ × ℕ) → ℕ → Type 0
HasInput tiles rect k = IsSomeAnd (slice_get tiles k) (λ tile. Covers (rect_of tile) rect)

-- the operand is one of the tiles, or a number
abbrev pub IsOperand : List AnyTile → List (ℕ × ℕ) → Operand → Type 0
IsOperand tiles rect (Input k) = HasInput tiles rect k
IsOperand tiles rect (Constant x) = IsConstant x

-- the operation can be evaluated on these tiles over this rectangle, with results of type t.
-- Operands have any type. A comparison gives bool. A count has one axis. A list has as many
-- numbers as its shape has indices, those of the rectangle among them
abbrev pub IsMap : MapOp → List AnyTile → List (ℕ × ℕ) → DType → Type 0
IsMap (ops.Unary op x) tiles rect t = IsOperand tiles rect x
IsMap (ops.Binary op x y) tiles rect t = IsOperand tiles rect x × IsOperand tiles rect y
IsMap (ops.Compare op x y) tiles rect t =
    (t ≡ Truth) × IsOperand tiles rect x × IsOperand tiles rect y
IsMap (ops.Select choice x y) tiles rect t =
    IsOperand tiles rect choice × IsOperand tiles rect x × IsOperand tiles rect y
IsMap (ops.Cast x) tiles rect t = IsOperand tiles rect x
IsMap (ops.Fill x) tiles rect t = IsConstant x
IsMap (ops.Count x) tiles rect t = IsConstant x × (length rect ≡ 1)
IsMap (ops.List shape list) tiles rect t =
    (length list ≡ size_of shape) × (size_of shape ≤ MAX_VOLUME) × Covers (whole shape) rect
    × All IsConstant list
