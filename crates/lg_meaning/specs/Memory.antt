-- What a script has made so far: roots, which hold elements, and names, which stand for weak
-- numbers or for views of roots. This project's own.
use Rattle.std.specs.Prelude.{ℕ, List, [], map, Option, Some, None, ℤ, pos, slice_get, slice_index_or}
use Rattle.std.specs.List.{range_with_len}
use Rattle.std.specs.Ordering.{nat_cmp}
use Rattle.std.specs.Cmp.Lexicographic.{slice_cmp}
use Rattle.std.specs.FinMap.{FinMap}
use Rattle.lg_elem.specs.declared.dtype.DType.{DType}
use Rattle.lg_shape.specs.Shapes.{size_of}
use Rattle.lg_meaning.specs.Weak.{Weak}

-- the elements that a value was given when it was made, in row-major order
pub record Root : Type 0 where
  pub dtype : DType
  pub shape : List ℕ
  pub numbers : List ℤ

-- the root with each number: one for each array that a statement bound, numbered from 0 in that
-- order. The roots of launches are counted apart
abbrev pub Memory : Type 0
Memory = List Root

-- what a script may do with an array: read and write it, or read it alone; a scalar is one element,
-- which may be read alone
pub data Right : Type 0 where
  writable : Right
  read_only : Right
  scalar : Right

-- what is known of an array before an element is computed
pub record ArrayKind : Type 0 where
  pub dtype : DType
  pub shape : List ℕ
  pub right : Right

-- an array that a name stands for: of one root, with a type, a shape and a right, and for each
-- index of it in row-major order a place of the root
pub record View : Type 0 where
  pub root : ℕ
  pub kind : ArrayKind
  pub places : List ℕ

-- the view of a whole root
abbrev pub whole_view : ℕ → ArrayKind → View
whole_view root kind =
    record { root = root; kind = kind; places = range_with_len 0 (size_of kind.shape) }

-- the numbers of a root, none where there is no such root
abbrev pub numbers_of : Option Root → List ℤ
numbers_of None = []
numbers_of (Some root) = root.numbers

-- the numbers at a view's places
abbrev pub viewed : Memory → View → List ℤ
viewed memory view =
    map (λ place. slice_index_or (numbers_of (slice_get memory view.root)) place (pos 0))
    view.places

-- what a name stands for
pub data Bound : Type 0 where
  weak : Weak → Bound
  array : View → Bound

abbrev pub Names : Type 0
Names = FinMap (slice_cmp nat_cmp) Bound

pub record State : Type 0 where
  pub memory : Memory
  pub names : Names
