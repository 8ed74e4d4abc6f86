-- What an operation is applied to and what it makes, in the words of the definitions, and when an
-- answer is right.
use Rattle.std.specs.Prelude.{◌≡◌, ◌≤◌, ℕ, List, [], ◌∷◌, map, Option, Result, Ok, Err, pos, slice_index_or, ◌≤ℤ◌, ⊤}
use Rattle.lg_elem.specs.declared.dtype.DType.TheVariants.{Int64, UInt64}
use Rattle.lg_elem.specs.Types.{least, greatest}
use Rattle.lg_space.specs.Stored.{MAX_VOLUME}
use Rattle.lg_shape.specs.Shapes.{size_of, whole}
use Rattle.lg_store.specs.declared.view.Right.{Right as CodeRight}
use Rattle.lg_store.specs.declared.view.Right.TheVariants.{Writable, ReadOnly, Scalar}
use Rattle.lg_tile.specs.declared.any_tile.AnyTile.{AnyTile}
use Rattle.lg_tile.specs.Tiles.{dtype_of, numbers, rect_of}
use Rattle.lg_xform.specs.declared.chain.Chain.{Chain}
use Rattle.lg_xform.specs.Chains.{root_of, shape_of, layout_of}
use Rattle.lg_meaning.specs.declared.fault.FaultKind.{FaultKind}
use Rattle.lg_meaning.specs.Weak as weak
use Rattle.lg_meaning.specs.Weak.{Weak, number_of}
use Rattle.lg_meaning.specs.Memory.{Right, writable, read_only, scalar, ArrayKind}
use Rattle.lg_meaning.specs.Static.{Static, weak_value, array_value}
use Rattle.lg_meaning.specs.Value.{Value, plain}
use Rattle.lg_operations.specs.declared.end.EvaluateEnd.{EvaluateEnd}
use Rattle.lg_operations.specs.declared.end.EvaluateEnd.TheVariants.{Fault, NoMemory}
use Rattle.lg_operations.specs.declared.values.Weak.{Weak as CodeWeak}
use Rattle.lg_operations.specs.declared.values.Weak.TheVariants.{Integer, Truth}
use Rattle.lg_operations.specs.declared.values.Operand.{Operand}
use Rattle.lg_operations.specs.declared.values.Operand.TheVariants as operand
use Rattle.lg_operations.specs.declared.values.Fresh.{Fresh}

-- ---- what the code's values stand for

abbrev pub weak_of : CodeWeak → Weak
weak_of (Integer x) = weak.integer x
weak_of (Truth b) = weak.truth b

abbrev pub weak_answer : Result CodeWeak FaultKind → Result Weak FaultKind
weak_answer (Ok w) = Ok (weak_of w)
weak_answer (Err kind) = Err kind

abbrev pub right_for : CodeRight → Right
right_for Writable = writable
right_for ReadOnly = read_only
right_for Scalar = scalar

-- the extents of an array whose elements are a tile
abbrev pub extents_of : AnyTile → List ℕ
extents_of tile = map (λ range. range.1) (rect_of tile)

-- type, shape and right of an array, and its value with the first fault of its elements
abbrev pub kind_of : AnyTile → CodeRight → ArrayKind
kind_of tile right =
    record { dtype = dtype_of tile; shape = extents_of tile; right = right_for right }

abbrev pub value_with : AnyTile → Option FaultKind → Value
value_with tile fault =
    record { shape = extents_of tile; numbers = numbers tile; fault = fault }

-- the same of a view of a root whose elements are a tile
abbrev pub seen_kind : AnyTile → Chain → CodeRight → ArrayKind
seen_kind tile chain right =
    record { dtype = dtype_of tile; shape = shape_of chain; right = right_for right }

abbrev pub seen_value : AnyTile → Chain → Value
seen_value tile chain = plain (shape_of chain)
    (map (λ place. slice_index_or (numbers tile) place (pos 0)) (layout_of chain).places)

abbrev pub operand_static : Operand → Static
operand_static (operand.Weak w) = weak_value (weak_of w)
operand_static (operand.Array tile right fault) = array_value (kind_of tile.now right)
operand_static (operand.View tile chain right) = array_value (seen_kind tile.now chain.now right)

abbrev pub operand_value : Operand → Value
operand_value (operand.Weak w) = plain [] (number_of (weak_of w) ∷ [])
operand_value (operand.Array tile right fault) = value_with tile.now fault
operand_value (operand.View tile chain right) = seen_value tile.now chain.now

abbrev pub fresh_kind : Fresh → ArrayKind
fresh_kind fresh = kind_of fresh.tile fresh.right

abbrev pub fresh_value : Fresh → Value
fresh_value fresh = value_with fresh.tile fresh.fault

-- ---- what there is in a program

-- a tile over all indices of a shape
abbrev pub IsWhole : AnyTile → Type 0
IsWhole tile = rect_of tile ≡ whole (extents_of tile)

-- a number that int64 or uint64 has
abbrev pub IsRanged : Weak → Type 0
IsRanged w = (least Int64 ≤ℤ number_of w) × (number_of w ≤ℤ greatest UInt64)

-- a view of a root whose elements are the tile, with no more elements than a tile can have
pub record IsSeenIn (tile : AnyTile) (chain : Chain) : Type 0 where
  pub root : rect_of tile ≡ whole (root_of chain)
  pub small : size_of (shape_of chain) ≤ MAX_VOLUME

abbrev pub IsReady : Operand → Type 0
IsReady (operand.Weak w) = IsRanged (weak_of w)
IsReady (operand.Array tile right fault) = IsWhole tile.now
IsReady (operand.View tile chain right) = IsSeenIn tile.now chain.now

abbrev pub IsArray : Operand → Type 0
IsArray (operand.Weak w) = ⊥
IsArray (operand.Array tile right fault) = ⊤
IsArray (operand.View tile chain right) = ⊤

-- ---- answers

-- there is no static fault, and the array has the type, shape and right, and the value
pub record IsArrayOf (static : Result Static FaultKind) (value : ArrayKind → Value)
    (fresh : Fresh) : Type 0 where
  pub kind : static ≡ Ok (array_value (fresh_kind fresh))
  pub same : fresh_value fresh ≡ value (fresh_kind fresh)
  pub whole : IsWhole fresh.tile

-- the answer is the array, or the first static fault
abbrev pub IsMade : Result Static FaultKind → (ArrayKind → Value) → Result Fresh EvaluateEnd → Type 0
IsMade static value (Ok fresh) = IsArrayOf static value fresh
IsMade static value (Err (Fault kind)) = static ≡ Err kind
IsMade static value (Err NoMemory) = ⊤
