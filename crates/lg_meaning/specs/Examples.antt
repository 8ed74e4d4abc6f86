-- Expressions, answers and states that the worked examples speak of.
use Rattle.std.specs.Prelude.{ℕ, suc, List, [], ◌∷◌, map, codes, Option, Some, None, Result, Ok, ℤ, pos, negsuc}
use Rattle.std.specs.FinMap.{empty, insert}
use Rattle.lg_elem.specs.declared.dtype.DType.{DType}
use Rattle.lg_elem.specs.declared.dtype.DType.TheVariants.{Bool as Truth, Int8, Int16, Int32, Int64, UInt8, UInt16, UInt32, UInt64}
use Rattle.lg_tree.specs.declared.kinds.Arith.{Arith}
use Rattle.lg_tree.specs.declared.kinds.Arith.TheVariants.{FloorDiv, Pow, BitAnd}
use Rattle.lg_shape.specs.Shapes.{size_of}
use Rattle.lg_tree.specs.Tree.{Tree, number, neg, arith, index, ones, arange, array, reshape, MaybeTree, no_tree, some_tree, ShapeTree, one, tuple, ItemTree, at, slice, ListTree, leaf, list, ListTrees, no_lists, more_lists, StatementTree, put, update_at, LineTree}
use Rattle.lg_tree.specs.View.{trees, item_trees}
use Rattle.lg_meaning.specs.declared.fault.FaultKind.{FaultKind}
use Rattle.lg_meaning.specs.Memory.{Right, ArrayKind, writable, scalar, State, View, whole_view}
use Rattle.lg_meaning.specs.Memory as bound
use Rattle.lg_meaning.specs.Weak as weak
use Rattle.lg_meaning.specs.Static.{Static, weak_value, array_value}
use Rattle.lg_meaning.specs.Value.{Value}
use Rattle.lg_meaning.specs.Expressions.{static_of, evaluated}
use Rattle.lg_meaning.specs.Run.{Run, Progress, done, start, run}

-- all element types
abbrev pub types : List DType
types = Truth ∷ Int8 ∷ Int16 ∷ Int32 ∷ Int64 ∷ UInt8 ∷ UInt16 ∷ UInt32 ∷ UInt64 ∷ []

-- `ones(n, t)`
abbrev pub ones_of : ℕ → DType → Tree
ones_of n t = ones (one (number n)) (Some t)

-- a list of entries
abbrev pub entries : List ListTree → ListTrees
entries [] = no_lists
entries (l ∷ ls) = more_lists l (entries ls)

abbrev pub leaves : List Tree → ListTrees
leaves [] = no_lists
leaves (e ∷ es) = more_lists (leaf e) (leaves es)

-- `array([..], t)`
abbrev pub array_of : List Tree → DType → Tree
array_of es t = array (list (leaves es)) (Some t)

-- a number of either sign
abbrev pub literal : ℤ → Tree
literal (pos n) = number n
literal (negsuc n) = neg (number (suc n))

-- `array([x, y, ..], t)` and `array([[x, ..], [y, ..], ..], t)`
abbrev pub vector_of : DType → List ℤ → Tree
vector_of t xs = array_of (map literal xs) t

abbrev pub row_of : List ℤ → ListTree
row_of xs = list (leaves (map literal xs))

abbrev pub rows_of : List (List ℤ) → ListTree
rows_of rows = list (entries (map row_of rows))

abbrev pub grid_of : DType → List (List ℤ) → Tree
grid_of t rows = array (rows_of rows) (Some t)

-- `(x, y, ..)`
abbrev pub tuple_of : List Tree → ShapeTree
tuple_of es = tuple (trees es)

abbrev pub sizes : List ℕ → ShapeTree
sizes shape = tuple_of (map number shape)

-- `arange(n)`, and an array of this shape with the numbers 0, 1, 2 and so on
abbrev pub counted_to : ℕ → Tree
counted_to n = arange no_tree (number n) None

abbrev pub ordered : List ℕ → Tree
ordered shape = reshape (counted_to (size_of shape)) (sizes shape)

-- `e[item, item, ..]`
abbrev pub indexed_by : Tree → List ItemTree → Tree
indexed_by e is = index e (item_trees is)

-- an integer, `start:stop`, `start:stop:step` and `::step` as items
abbrev pub picks : ℤ → ItemTree
picks x = at (literal x)

abbrev pub left_or_out : Option ℤ → MaybeTree
left_or_out None = no_tree
left_or_out (Some x) = some_tree (literal x)

abbrev pub cut : Option ℤ → Option ℤ → ItemTree
cut start stop = slice (left_or_out start) (left_or_out stop) no_tree

abbrev pub sliced : Option ℤ → Option ℤ → Option ℤ → ItemTree
sliced start stop step = slice (left_or_out start) (left_or_out stop) (left_or_out step)

abbrev pub stepping : ℤ → ItemTree
stepping x = slice no_tree no_tree (some_tree (literal x))

abbrev pub whole_axis : ItemTree
whole_axis = slice no_tree no_tree no_tree

-- a weak integer
abbrev pub a_weak : ℤ → Result Static FaultKind
a_weak x = Ok (weak_value (weak.integer x))

-- a vector of a type that may be written, and an array without axes
abbrev pub vector : DType → ℕ → ArrayKind
vector t n = record { dtype = t; shape = n ∷ []; right = writable }

abbrev pub a_vector : DType → ℕ → Result Static FaultKind
a_vector t n = Ok (array_value (vector t n))

-- an array of this shape and right
abbrev pub an_array : DType → List ℕ → Right → Result Static FaultKind
an_array t shape right = Ok (array_value (record { dtype = t; shape = shape; right = right }))

abbrev pub a_scalar : DType → Result Static FaultKind
a_scalar t = Ok (array_value (record { dtype = t; shape = []; right = scalar }))

-- the value of an expression without names
abbrev pub value : Tree → Value
value e = evaluated e start.memory start.names

abbrev pub numbers : Tree → List ℤ
numbers e = (value e).numbers

abbrev pub fault_of : Tree → Option FaultKind
fault_of e = (value e).fault

-- what is known of an expression without names
abbrev pub known : Tree → Result Static FaultKind
known e = static_of e start.names

-- an array without axes, which is not weak
abbrev pub one_scalar : Tree
one_scalar = arith BitAnd (number 1) (number 1)

-- a static fault, and two faults of elements
abbrev pub no_quotient : Tree
no_quotient = arith FloorDiv (number 1) (number 0)

abbrev pub by_zero : Tree
by_zero = arith FloorDiv (ones_of 1 Int8) (number 0)

abbrev pub to_below : Tree
to_below = arith Pow (ones_of 1 Int8) (neg (number 1))

-- the name a stands for a vector of this one number
abbrev pub a_bound : ℤ → State
a_bound x = record {
  memory = record { dtype = Int64; shape = 1 ∷ []; numbers = x ∷ [] } ∷ [];
  names = insert empty (codes "a") (bound.array (whole_view 0 (vector Int64 1)));
}

-- the names a and b stand for one vector, of the number 7
abbrev pub both_bound : State
both_bound = record {
  memory = record { dtype = Int64; shape = 1 ∷ []; numbers = pos 7 ∷ [] } ∷ [];
  names = insert (insert empty (codes "a") (bound.array (whole_view 0 (vector Int64 1))))
      (codes "b") (bound.array (whole_view 0 (vector Int64 1)));
}

-- the name a stands for an array of int64 of this shape with these numbers
abbrev pub a_stands : List ℕ → List ℤ → State
a_stands shape xs = record {
  memory = record { dtype = Int64; shape = shape; numbers = xs } ∷ [];
  names = insert empty (codes "a")
      (bound.array (whole_view 0 (record { dtype = Int64; shape = shape; right = writable })));
}

-- a view of that array
abbrev pub a_view : List ℕ → Right → List ℕ → View
a_view shape right places = record {
  root = 0;
  kind = record { dtype = Int64; shape = shape; right = right };
  places = places;
}

-- statements on lines 1, 2, 3 and so on, and what they print
abbrev pub numbered : ℕ → List StatementTree → List LineTree
numbered n [] = []
numbered n (s ∷ ss) = record { number = n; statement = s } ∷ numbered (suc n) ss

abbrev pub ran : List StatementTree → Run
ran ss = run (numbered 1 ss)

-- `w[item, item, ..] = e` and `w[item, item, ..] op= e`
abbrev pub put_at : List ℕ → List ItemTree → Tree → StatementTree
put_at w is e = put w (item_trees is) e

abbrev pub update_at_part : List ℕ → List ItemTree → Arith → Tree → StatementTree
update_at_part w is op e = update_at w (item_trees is) op e

-- a run in which so many statements were reached
abbrev pub counted_already : ℕ → Progress
counted_already n = record { state = start; count = n; text = []; end = done }
