-- What an expression means: what is known of it before an element is computed (`static_of`), and
-- its numbers (`evaluated`). Each form has a line in both, and what the line says stands in the
-- file of its topic. First come the faults of all parts, from left to right, and then those of the
-- operation on them: this project's own.
use Rattle.std.specs.Prelude.{ℕ, List, [], ◌∷◌, ◌++◌, length, unwrap_or, Option, Some, None, Result, Ok, Err, ℤ, pos}
use Rattle.std.specs.Int.{from_bool}
use Rattle.std.specs.FinMap.{get}
use Rattle.lg_elem.specs.declared.dtype.DType.TheVariants.{Int64}
use Rattle.lg_elem.specs.declared.kinds.Binary.TheVariants as binary
use Rattle.lg_elem.specs.declared.kinds.Unary.TheVariants.{Neg, Invert, Abs}
use Rattle.lg_shape.specs.declared.index.IndexItem.{IndexItem}
use Rattle.lg_tree.specs.declared.kinds.Red.{Red}
use Rattle.lg_tree.specs.Tree.{Tree, number, truth, name, neg, invert, arith, matmul, compare, index, full, zeros, ones, arange, array, abs, minimum, maximum, choose, reduce, take, transpose, broadcast_to, stencil, copy, flatten, as_type, reshape, apply, scan, MaybeTree, no_tree, some_tree, Trees, no_trees, more_trees, ShapeTree, one, tuple, MaybeShape, no_shape, some_shape, ItemTree, at, slice, new_axis, ellipsis, ItemTrees, no_items, more_items, ListTree, leaf, list, ListTrees, no_lists, more_lists}
use Rattle.lg_meaning.specs.declared.fault.FaultKind.{FaultKind}
use Rattle.lg_meaning.specs.declared.fault.FaultKind.TheVariants.{Name}
use Rattle.lg_meaning.specs.Weak as weak
use Rattle.lg_meaning.specs.Faults.{from_part, from_both, known_or}
use Rattle.lg_meaning.specs.Memory.{ArrayKind, Bound, Memory, Names}
use Rattle.lg_meaning.specs.Memory as bound
use Rattle.lg_meaning.specs.Static.{Static, weak_value, array_value, weak_of, integer_of, optional_integer, integers, weaks}
use Rattle.lg_meaning.specs.Value.{Value, plain, only, valued, shown}
use Rattle.lg_meaning.specs.Operators.{operation, arith_static, binary_static, binary_value, compare_static, compare_value, unary_static, neg_static, unary_value, choose_static, choose_value}
use Rattle.lg_meaning.specs.Creation.{type_or, full_static, shaped, filled, arange_static, counted, list_shape, list_type, array_static, listed}
use Rattle.lg_meaning.specs.Views.{picked, optional_axis, optional_integers, transpose_axes, transpose_static, transposed, broadcast_static, repeated}
use Rattle.lg_meaning.specs.Indices as item
use Rattle.lg_meaning.specs.Indices.{ItemStatic, index_items, index_static, index_form}
use Rattle.lg_meaning.specs.Reductions.{reduce_static, reduce_value}
use Rattle.lg_meaning.specs.Take.{take_static, take_value}
use Rattle.lg_meaning.specs.Stencil.{stencil_static, stencil_value}
use Rattle.lg_meaning.specs.Matmul.{matmul_static, matmul_value}
use Rattle.lg_meaning.specs.Copies.{copy_static, flatten_static, same_numbers, as_type_static, as_type_value, reshape_static}
use Rattle.lg_meaning.specs.LeftOut.{left_out}

-- a name that is not bound is a fault
abbrev pub named : Option Bound → Result Static FaultKind
named None = Err Name
named (Some (bound.weak w)) = Ok (weak_value w)
named (Some (bound.array view)) = Ok (array_value view.kind)

-- ---- what is known of an expression

abbrev mutual
  pub static_of : Tree → Names → Result Static FaultKind
  static_of (number n) names = Ok (weak_value (weak.integer (pos n)))
  static_of (truth b) names = Ok (weak_value (weak.truth b))
  static_of (name w) names = named (get names w)
  static_of (neg a) names = from_part (static_of a names) neg_static
  static_of (invert a) names = from_part (static_of a names) (unary_static Invert)
  static_of (arith op a b) names =
      from_both (static_of a names) (static_of b names) (arith_static op)
  static_of (matmul a b) names =
      from_both (static_of a names) (static_of b names) matmul_static
  static_of (compare op a b) names =
      from_both (static_of a names) (static_of b names) (compare_static op)
  static_of (index a is) names =
      from_both (static_of a names) (items_static is names) index_static
  static_of (full s x t) names =
      from_both (shape_static s names) (static_of x names)
      (λ parts v. from_both (integers parts) (weak_of v) (λ xs w. full_static xs w t))
  static_of (zeros s t) names =
      from_part (shape_static s names)
      (λ parts. from_part (integers parts) (shaped (type_or t Int64)))
  static_of (ones s t) names =
      from_part (shape_static s names)
      (λ parts. from_part (integers parts) (shaped (type_or t Int64)))
  static_of (arange from to t) names =
      from_both (maybe_static from names) (static_of to names)
      (λ p q. from_both (integer_of p) (integer_of q)
      (λ x y. arange_static x y (type_or t Int64)))
  static_of (array l t) names =
      from_part (list_static l names)
      (λ parts. from_part (weaks parts)
      (λ ws. array_static (list_shape l) ws (type_or t (list_type ws))))
  static_of (abs a) names = from_part (static_of a names) (unary_static Abs)
  static_of (minimum a b) names =
      from_both (static_of a names) (static_of b names) (binary_static binary.Min)
  static_of (maximum a b) names =
      from_both (static_of a names) (static_of b names) (binary_static binary.Max)
  static_of (choose c a b) names =
      from_both (static_of c names) (static_of a names)
      (λ k x. from_part (static_of b names) (choose_static k x))
  static_of (reduce r a axis) names =
      from_both (static_of a names) (optional_static axis names) (reduce_static r)
  static_of (take a i axis) names =
      from_both (static_of a names) (static_of i names)
      (λ x k. from_part (optional_static axis names) (take_static x k))
  static_of (transpose a s) names =
      from_both (static_of a names) (optional_shape_static s names) transpose_static
  static_of (broadcast_to a s) names =
      from_both (static_of a names) (shape_static s names) broadcast_static
  static_of (stencil a l) names =
      from_both (static_of a names) (list_static l names)
      (λ x parts. stencil_static x (list_shape l) parts)
  static_of (copy a) names = from_part (static_of a names) copy_static
  static_of (flatten a) names = from_part (static_of a names) flatten_static
  static_of (as_type a t) names = from_part (static_of a names) (λ x. as_type_static x t)
  static_of (reshape a s) names =
      from_both (static_of a names) (shape_static s names) reshape_static
  -- no operation has a name so far, and this is looked at before the operands
  static_of (apply w a b) names = Err Name
  static_of (scan c a axis) names = Err left_out

  -- a bound that is left out is 0
  pub maybe_static : MaybeTree → Names → Result Static FaultKind
  maybe_static no_tree names = Ok (weak_value (weak.integer (pos 0)))
  maybe_static (some_tree e) names = static_of e names

  -- an axis, or a part of a slice
  pub optional_static : MaybeTree → Names → Result (Option Static) FaultKind
  optional_static no_tree names = Ok None
  optional_static (some_tree e) names = from_part (static_of e names) (λ a. Ok (Some a))

  -- each of some expressions
  pub trees_static : Trees → Names → Result (List Static) FaultKind
  trees_static no_trees names = Ok []
  trees_static (more_trees e es) names =
      from_both (static_of e names) (trees_static es names) (λ a parts. Ok (a ∷ parts))

  -- the extents
  pub shape_static : ShapeTree → Names → Result (List Static) FaultKind
  shape_static (one e) names = from_part (static_of e names) (λ a. Ok (a ∷ []))
  shape_static (tuple es) names = trees_static es names

  pub optional_shape_static : MaybeShape → Names → Result (Option (List Static)) FaultKind
  optional_shape_static no_shape names = Ok None
  optional_shape_static (some_shape s) names =
      from_part (shape_static s names) (λ parts. Ok (Some parts))

  -- an item of an index
  pub item_static : ItemTree → Names → Result ItemStatic FaultKind
  item_static (at e) names = from_part (static_of e names) (λ a. Ok (item.at a))
  item_static (slice start stop step) names =
      from_both (optional_static start names) (optional_static stop names)
      (λ a b. from_part (optional_static step names) (λ c. Ok (item.slice a b c)))
  item_static new_axis names = Ok item.new_axis
  item_static ellipsis names = Ok item.ellipsis

  pub items_static : ItemTrees → Names → Result (List ItemStatic) FaultKind
  items_static no_items names = Ok []
  items_static (more_items i is) names =
      from_both (item_static i names) (items_static is names) (λ part parts. Ok (part ∷ parts))

  -- what stands in nested lists, in the order in which it is written
  pub list_static : ListTree → Names → Result (List Static) FaultKind
  list_static (leaf e) names = from_part (static_of e names) (λ a. Ok (a ∷ []))
  list_static (list ls) names = lists_static ls names

  pub lists_static : ListTrees → Names → Result (List Static) FaultKind
  lists_static no_lists names = Ok []
  lists_static (more_lists l ls) names =
      from_both (list_static l names) (lists_static ls names) (λ xs ys. Ok (xs ++ ys))

-- ---- what is written in an expression without a static fault

-- the items of an index
abbrev pub items_of : ItemTrees → Names → Result (List IndexItem) FaultKind
items_of is names = from_part (items_static is names) index_items

abbrev pub written_items : ItemTrees → Names → List IndexItem
written_items is names = known_or [] (items_of is names)

-- an axis among so many, if there is one
abbrev pub written_axis : MaybeTree → ℕ → Names → Option ℕ
written_axis axis count names =
    known_or None (from_part (optional_static axis names)
    (λ part. from_part (optional_integer part) (optional_axis count)))

-- the axes of a `transpose` of so many
abbrev pub written_axes : MaybeShape → ℕ → Names → List ℕ
written_axes s count names =
    known_or [] (from_part (optional_shape_static s names)
    (λ parts. from_part (optional_integers parts) (transpose_axes count)))

-- a reduction, a `take` and a `transpose` of a value, by what is written of its axes
abbrev pub reduce_by : Red → MaybeTree → Names → Value → ArrayKind → Value
reduce_by r axis names v = reduce_value r v (written_axis axis (length v.shape) names)

abbrev pub take_by : MaybeTree → Names → Value → Value → ArrayKind → Value
take_by axis names v i = take_value v i (written_axis axis (length v.shape) names)

abbrev pub transpose_by : MaybeShape → Names → Value → ArrayKind → Value
transpose_by s names v = picked (transposed (written_axes s (length v.shape) names)) v

-- ---- the numbers of an expression

abbrev mutual
  pub evaluated : Tree → Memory → Names → Value
  evaluated (number n) memory names = plain [] (pos n ∷ [])
  evaluated (truth b) memory names = plain [] (pos (from_bool b) ∷ [])
  evaluated (name w) memory names =
      valued (static_of (name w) names) (shown memory (get names w))
  evaluated (neg a) memory names =
      valued (static_of (neg a) names) (unary_value Neg (evaluated a memory names))
  evaluated (invert a) memory names =
      valued (static_of (invert a) names) (unary_value Invert (evaluated a memory names))
  evaluated (arith op a b) memory names =
      valued (static_of (arith op a b) names)
      (binary_value (operation op) (evaluated a memory names) (evaluated b memory names))
  evaluated (matmul a b) memory names =
      valued (static_of (matmul a b) names)
      (matmul_value (evaluated a memory names) (evaluated b memory names))
  evaluated (compare op a b) memory names =
      valued (static_of (compare op a b) names)
      (compare_value op (evaluated a memory names) (evaluated b memory names))
  evaluated (index a is) memory names =
      valued (static_of (index a is) names)
      (picked (index_form (written_items is names)) (evaluated a memory names))
  evaluated (full s x t) memory names =
      valued (static_of (full s x t) names) (filled (only (evaluated x memory names)))
  evaluated (zeros s t) memory names = valued (static_of (zeros s t) names) (filled (pos 0))
  evaluated (ones s t) memory names = valued (static_of (ones s t) names) (filled (pos 1))
  evaluated (arange from to t) memory names =
      valued (static_of (arange from to t) names) (counted (first_bound from memory names))
  evaluated (array l t) memory names =
      valued (static_of (array l t) names) (listed (list_numbers l memory names))
  evaluated (abs a) memory names =
      valued (static_of (abs a) names) (unary_value Abs (evaluated a memory names))
  evaluated (minimum a b) memory names =
      valued (static_of (minimum a b) names)
      (binary_value binary.Min (evaluated a memory names) (evaluated b memory names))
  evaluated (maximum a b) memory names =
      valued (static_of (maximum a b) names)
      (binary_value binary.Max (evaluated a memory names) (evaluated b memory names))
  evaluated (choose c a b) memory names =
      valued (static_of (choose c a b) names)
      (choose_value (evaluated c memory names) (evaluated a memory names)
      (evaluated b memory names))
  evaluated (reduce r a axis) memory names =
      valued (static_of (reduce r a axis) names) (reduce_by r axis names (evaluated a memory names))
  evaluated (take a i axis) memory names =
      valued (static_of (take a i axis) names)
      (take_by axis names (evaluated a memory names) (evaluated i memory names))
  evaluated (transpose a s) memory names =
      valued (static_of (transpose a s) names) (transpose_by s names (evaluated a memory names))
  evaluated (broadcast_to a s) memory names =
      valued (static_of (broadcast_to a s) names)
      (λ kind. picked (repeated kind.shape) (evaluated a memory names) kind)
  evaluated (stencil a l) memory names =
      valued (static_of (stencil a l) names)
      (stencil_value (evaluated a memory names) (unwrap_or (list_shape l) [])
      (list_numbers l memory names))
  evaluated (copy a) memory names =
      valued (static_of (copy a) names) (same_numbers (evaluated a memory names))
  evaluated (flatten a) memory names =
      valued (static_of (flatten a) names) (same_numbers (evaluated a memory names))
  evaluated (as_type a t) memory names =
      valued (static_of (as_type a t) names) (as_type_value (evaluated a memory names))
  evaluated (reshape a s) memory names =
      valued (static_of (reshape a s) names) (same_numbers (evaluated a memory names))
  evaluated (apply w a b) memory names = plain [] []
  evaluated (scan c a axis) memory names = plain [] []

  pub first_bound : MaybeTree → Memory → Names → ℤ
  first_bound no_tree memory names = pos 0
  first_bound (some_tree e) memory names = only (evaluated e memory names)

  -- the numbers in nested lists, in the order in which they are written
  pub list_numbers : ListTree → Memory → Names → List ℤ
  list_numbers (leaf e) memory names = only (evaluated e memory names) ∷ []
  list_numbers (list ls) memory names = lists_numbers ls memory names

  pub lists_numbers : ListTrees → Memory → Names → List ℤ
  lists_numbers no_lists memory names = []
  lists_numbers (more_lists l ls) memory names =
      list_numbers l memory names ++ lists_numbers ls memory names
