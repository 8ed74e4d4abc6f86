-- How an operand of an operation is read, where its elements are repeated to the shape of the
-- result, and what an operation gives on what is read. Only private functions speak of it.
use Rattle.std.specs.Prelude.{◌≡◌, ℕ, List, [], ◌∷◌, map, Option, None, Some, slice_get, slice_index_or, ℤ, pos, ⊤, if◌then◌else◌}
use Rattle.std.specs.Int.{from_bool}
use Rattle.std.specs.Option.{IsSomeAnd}
use Rattle.lg_elem.specs.declared.dtype.DType.{DType}
use Rattle.lg_elem.specs.declared.dtype.DType.TheVariants.{Bool as Truth}
use Rattle.lg_elem.specs.declared.kinds.Flag.{Flag}
use Rattle.lg_elem.specs.declared.kinds.Flag.TheVariants.{Clear}
use Rattle.lg_elem.specs.Types.{IsNumber, wrap}
use Rattle.lg_elem.specs.Operations.{unary_of, value_of, flag_of, compare_of, is_zero}
use Rattle.lg_space.specs.Rectangle.{IsIn, indices}
use Rattle.lg_shape.specs.Shapes.{whole, place_of, aligned, joined_shape}
use Rattle.lg_tile.specs.declared.any_tile.AnyTile.{AnyTile}
use Rattle.lg_tile.specs.Sections.{Covers}
use Rattle.lg_tile.specs.Tiles.{dtype_of, numbers, number_at, rect_of}
use Rattle.lg_xform.specs.Chains.{root_of, shape_of}
use Rattle.lg_map.specs.declared.operation.Operand.{Operand}
use Rattle.lg_map.specs.declared.operation.Operand.TheVariants.{Input, Constant}
use Rattle.lg_map.specs.declared.operation.MapOp.{MapOp}
use Rattle.lg_map.specs.declared.operation.MapOp.TheVariants as ops
use Rattle.lg_map.specs.Mapping.{IsConstant, IsMap, first_flag, map_value}
use Rattle.lg_meaning.specs.Weak.{number_of}
use Rattle.lg_meaning.specs.Static.{Static, weak_value, array_value}
use Rattle.lg_meaning.specs.Value.{Value}
use Rattle.lg_operations.specs.Gathering.{seen_at}
use Rattle.lg_operations.specs.declared.lending.Inputs.{Inputs}
use Rattle.lg_operations.specs.declared.lending.Lent.{Lent}
use Rattle.lg_operations.specs.declared.lending.Lent.TheVariants.{Number, Tile, Viewed}

-- ---- repeating

-- a value of one shape can be repeated to another one
abbrev pub SpreadsTo : List ℕ → List ℕ → Type 0
SpreadsTo shape to = joined_shape shape to ≡ Some to

-- the number of a value that belongs to an index of such a shape
abbrev pub spread_at : Value → List ℕ → ℤ
spread_at v index = slice_index_or v.numbers (place_of v.shape (aligned v.shape index)) (pos 0)

-- ---- what is lent

abbrev pub lent_at : Lent → List ℕ → ℤ
lent_at (Number x) index = x
lent_at (Tile tile) index = number_at tile.now index
lent_at (Viewed tile chain) index = seen_at tile.now chain index

-- a number that a script can write, or a tile or a view that has each index of the rectangle
abbrev pub IsLentOver : List (ℕ × ℕ) → Lent → Type 0
IsLentOver rect (Number x) = IsConstant x
IsLentOver rect (Tile tile) = Covers (rect_of tile.now) rect
IsLentOver rect (Viewed tile chain) =
    (rect_of tile.now ≡ whole (root_of chain)) × Covers (whole (shape_of chain)) rect

-- it has at each index of the shape the value's number
pub record Lends (v : Value) (shape : List ℕ) (lent : Lent) : Type 0 where
  pub over : IsLentOver (whole shape) lent
  pub same : (index : List ℕ) → IsIn (whole shape) index → lent_at lent index ≡ spread_at v index

-- a number that an operand of this type can have
abbrev pub IsNumberOf : Static → ℤ → Type 0
IsNumberOf (weak_value w) x = x ≡ number_of w
IsNumberOf (array_value kind) x = IsNumber kind.dtype x

-- ---- the inputs of an operation

abbrev pub lents_of : Inputs → List Lent
lents_of inputs = inputs.first ∷ inputs.second ∷ inputs.third ∷ []

pub record AreLentOver (rect : List (ℕ × ℕ)) (inputs : Inputs) : Type 0 where
  pub first : IsLentOver rect inputs.first
  pub second : IsLentOver rect inputs.second
  pub third : IsLentOver rect inputs.third

-- the operand that is read at this place of the inputs: a number is no input
abbrev pub operand_in : Lent → ℕ → Operand
operand_in (Number x) k = Constant x
operand_in (Tile tile) k = Input k
operand_in (Viewed tile chain) k = Input k

abbrev pub HasElements : Lent → Type 0
HasElements (Number x) = ⊥
HasElements (Tile tile) = ⊤
HasElements (Viewed tile chain) = ⊤

-- the operand is an input that has elements, or a number
abbrev pub IsTaken : Inputs → Operand → Type 0
IsTaken inputs (Input k) = IsSomeAnd (slice_get (lents_of inputs) k) HasElements
IsTaken inputs (Constant x) = IsConstant x

-- the operation can be evaluated over this rectangle on what is lent there
abbrev pub Takes : MapOp → Inputs → List (ℕ × ℕ) → DType → Type 0
Takes (ops.Unary op x) inputs rect t = IsTaken inputs x
Takes (ops.Binary op x y) inputs rect t = IsTaken inputs x × IsTaken inputs y
Takes (ops.Compare op x y) inputs rect t = (t ≡ Truth) × IsTaken inputs x × IsTaken inputs y
Takes (ops.Select choice x y) inputs rect t =
    IsTaken inputs choice × IsTaken inputs x × IsTaken inputs y
Takes (ops.Cast x) inputs rect t = IsTaken inputs x
Takes op inputs rect t = IsMap op [] rect t

-- ---- what an operation gives

abbrev pub input_at : Option Lent → List ℕ → ℤ
input_at None index = pos 0
input_at (Some lent) index = lent_at lent index

abbrev pub operand_at : Inputs → Operand → List ℕ → ℤ
operand_at inputs (Input k) index = input_at (slice_get (lents_of inputs) k) index
operand_at inputs (Constant x) index = x

-- the number of the result at an index, and the flag there
abbrev pub lent_value : MapOp → DType → Inputs → List ℕ → ℤ
lent_value (ops.Unary op x) t inputs index = unary_of op t (wrap t (operand_at inputs x index))
lent_value (ops.Binary op x y) t inputs index =
    value_of op t (wrap t (operand_at inputs x index)) (wrap t (operand_at inputs y index))
lent_value (ops.Compare op x y) t inputs index =
    pos (from_bool (compare_of op (operand_at inputs x index) (operand_at inputs y index)))
lent_value (ops.Select choice x y) t inputs index =
    if is_zero (operand_at inputs choice index) then wrap t (operand_at inputs y index)
    else wrap t (operand_at inputs x index)
lent_value (ops.Cast x) t inputs index = wrap t (operand_at inputs x index)
lent_value op t inputs index = map_value op t [] index

abbrev pub lent_flag : MapOp → DType → Inputs → List ℕ → Flag
lent_flag (ops.Binary op x y) t inputs index = flag_of op (wrap t (operand_at inputs y index))
lent_flag op t inputs index = Clear

abbrev pub lent_values : MapOp → DType → Inputs → List (ℕ × ℕ) → List ℤ
lent_values op t inputs rect = map (lent_value op t inputs) (indices rect)

abbrev pub lent_flags : MapOp → DType → Inputs → List (ℕ × ℕ) → Flag
lent_flags op t inputs rect = first_flag (map (lent_flag op t inputs) (indices rect))

-- the tile and the flag are those of the operation over this rectangle
abbrev pub Evaluates : MapOp → DType → Inputs → List (ℕ × ℕ) → AnyTile × Flag → Type 0
Evaluates op t inputs rect answer =
    (dtype_of answer.0 ≡ t) × (rect_of answer.0 ≡ rect)
    × (numbers answer.0 ≡ lent_values op t inputs rect)
    × (answer.1 ≡ lent_flags op t inputs rect)
