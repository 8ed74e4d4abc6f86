-- Writes through a view: `x[i] = e`, `x op= e` and `x[i] op= e`. After NumPy's reference,
-- "Assigning values to indexed arrays" and "numpy.can_cast"; the rights, that a weak integer has to
-- fit, and the orders of faults are this project's own.
use Rattle.std.specs.Prelude.{ℕ, ◌-◌, ◌==◌, Bool, true, false, ◌&&◌, List, [], ◌∷◌, length, map, take, drop, Option, Some, None, Result, Ok, Err, ℤ, slice_get, slice_set, bytes_eq}
use Rattle.std.specs.List.{list_all}
use Rattle.lg_elem.specs.declared.dtype.DType.{DType}
use Rattle.lg_elem.specs.Types.{wrap}
use Rattle.lg_promote.specs.Kinds.{is_same_kind}
use Rattle.lg_shape.specs.Shapes.{broadcast}
use Rattle.lg_shape.specs.Indexing.{index_fault, indexed_shape}
use Rattle.lg_shape.specs.declared.index.IndexItem.{IndexItem}
use Rattle.lg_tree.specs.declared.kinds.Arith.{Arith}
use Rattle.lg_meaning.specs.declared.fault.FaultKind.{FaultKind}
use Rattle.lg_meaning.specs.declared.fault.FaultKind.TheVariants.{Name, TypeKind, Range, Shape, ReadOnly}
use Rattle.lg_meaning.specs.Weak.{number_of}
use Rattle.lg_meaning.specs.Faults.{from_part, from_both, needing}
use Rattle.lg_meaning.specs.Memory.{Right, writable, read_only, scalar, ArrayKind, Root, Memory, View, Bound, viewed}
use Rattle.lg_meaning.specs.Memory as bound
use Rattle.lg_meaning.specs.Static.{Static, weak_value, array_value, as_array, shape_of}
use Rattle.lg_meaning.specs.Value.{Value, plain}
use Rattle.lg_meaning.specs.Creation.{is_literal}
use Rattle.lg_meaning.specs.Operators.{operation, arith_static, binary_value}
use Rattle.lg_meaning.specs.Views.{view_kind, view_by, broadcasts_to}
use Rattle.lg_meaning.specs.Indices.{unless_faulty, index_form}

-- what a statement writes: these numbers, through this view, where no element of them has a fault
pub record Write : Type 0 where
  pub target : View
  pub numbers : List ℤ
  pub fault : Option FaultKind

-- ---- the target

-- the array that a name stands for
abbrev pub array_named : Option Bound → Result View FaultKind
array_named None = Err Name
array_named (Some (bound.weak w)) = Err TypeKind
array_named (Some (bound.array view)) = Ok view

-- the view that an index picks of it, of one element too
abbrev pub part_of : View → List IndexItem → Result View FaultKind
part_of view items = unless_faulty (index_fault view.kind.shape items)
    (view_by (index_form items) view (view_kind view.kind (indexed_shape view.kind.shape items)))

-- first the faults of the name, then those of the index
abbrev pub target_of : Option Bound → Result (List IndexItem) FaultKind → Result View FaultKind
target_of b items = from_both (array_named b) items part_of

abbrev pub is_writable : Right → Bool
is_writable writable = true
is_writable read_only = false
is_writable scalar = false

-- ---- `x[i] = e`

-- a weak integer fits an integer type; anything else is wrapped, and for bool it counts as not 0
abbrev pub is_taken : DType → Static → Bool
is_taken t (weak_value w) = is_literal t (number_of w)
is_taken t (array_value kind) = true

-- so many leading axes of a value are more than the target has
abbrev pub surplus : List ℕ → List ℕ → ℕ
surplus shape to = length shape - length to

-- they have extent 1 and are dropped, and what is left broadcasts to the target's shape
abbrev pub without_surplus : List ℕ → List ℕ → List ℕ
without_surplus shape to = drop (surplus shape to) shape

abbrev pub fills : List ℕ → List ℕ → Bool
fills shape to =
    list_all (λ extent. extent == 1) (take (surplus shape to) shape)
    && broadcasts_to (without_surplus shape to) to

-- the target, behind the faults of `e`: those of the name and of the index come first, then that it
-- can't be written, that the number does not fit, and that the shape does not
abbrev pub put_target : Static → Option Bound → Result (List IndexItem) FaultKind
    → Result View FaultKind
put_target s b items = from_part (target_of b items)
    (λ target. needing (is_writable target.kind.right) ReadOnly
    (needing (is_taken target.kind.dtype s) Range
    (needing (fills (shape_of s) target.kind.shape) Shape (Ok target))))

-- the value is computed whole, and then repeated to the target's shape
abbrev pub put_write : Static → Value → Option Bound → Result (List IndexItem) FaultKind
    → Result Write FaultKind
put_write s v b items = from_part (put_target s b items)
    (λ target. Ok (record {
      target = target;
      numbers = broadcast (without_surplus v.shape target.kind.shape) v.numbers target.kind.shape;
      fault = v.fault;
    }))

-- ---- `x op= e` and `x[i] op= e`

-- type and shape of the result, behind the faults of the target and of `e`: first the faults of the
-- operation, then that the target can't be written, that its type is of a lower kind, and that its
-- shape is another one
abbrev pub update_kind : Arith → ArrayKind → Static → Result ArrayKind FaultKind
update_kind op target s = from_part (arith_static op (array_value target) s)
    (λ result. from_part (as_array result)
    (λ kind. needing (is_writable target.right) ReadOnly
    (needing (is_same_kind kind.dtype target.dtype) TypeKind
    (needing (bytes_eq kind.shape target.shape) Shape (Ok kind)))))

-- the result is computed whole
abbrev pub updated : Arith → View → Value → Memory → ArrayKind → Value
updated op target v memory kind =
    binary_value (operation op) (plain target.kind.shape (viewed memory target)) v kind

abbrev pub write_of : View → Value → Write
write_of target v = record { target = target; numbers = v.numbers; fault = v.fault }

abbrev pub update_write : Arith → View → Static → Value → Memory → Result Write FaultKind
update_write op target s v memory = from_part (update_kind op target.kind s)
    (λ kind. Ok (write_of target (updated op target v memory kind)))

-- ---- memory

-- the numbers of a root, where these places have these numbers now
abbrev pub put_all : List ℕ → List ℤ → List ℤ → List ℤ
put_all [] xs numbers = numbers
put_all (place ∷ places) [] numbers = numbers
put_all (place ∷ places) (x ∷ xs) numbers = put_all places xs (slice_set numbers place x)

abbrev pub root_written : Root → View → List ℤ → Root
root_written root view numbers = record {
  dtype = root.dtype;
  shape = root.shape;
  numbers = put_all view.places (map (wrap view.kind.dtype) numbers) root.numbers;
}

abbrev pub memory_written : Memory → View → List ℤ → Option Root → Memory
memory_written memory view numbers None = memory
memory_written memory view numbers (Some root) =
    slice_set memory view.root (root_written root view numbers)

-- the memory after a write: each number as the view's type has it
abbrev pub written : Memory → View → List ℤ → Memory
written memory view numbers =
    memory_written memory view numbers (slice_get memory view.root)
