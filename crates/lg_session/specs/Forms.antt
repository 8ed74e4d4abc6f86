-- The groups of forms that are walked by one function each.
use Rattle.std.specs.Prelude.{Bool, true, false}
use Rattle.lg_tree.specs.Tree.{Tree, neg, invert, arith, compare, abs, minimum, maximum, choose, full, zeros, ones, arange, array, index, transpose, broadcast_to, copy, flatten, as_type, reshape}

-- an operator of two operands
abbrev pub is_operator : Tree → Bool
is_operator (arith op a b) = true
is_operator (compare op a b) = true
is_operator e = false

-- an operation on elements that is no operator of two operands
abbrev pub is_operation : Tree → Bool
is_operation (neg a) = true
is_operation (invert a) = true
is_operation (abs a) = true
is_operation (minimum a b) = true
is_operation (maximum a b) = true
is_operation (choose c a b) = true
is_operation e = false

-- a form that makes an array
abbrev pub is_creation : Tree → Bool
is_creation (full s x t) = true
is_creation (zeros s t) = true
is_creation (ones s t) = true
is_creation (arange from to t) = true
is_creation (array l t) = true
is_creation e = false

-- a view form
abbrev pub is_view : Tree → Bool
is_view (index a is) = true
is_view (transpose a s) = true
is_view (broadcast_to a s) = true
is_view e = false

-- a copying form
abbrev pub is_copy : Tree → Bool
is_copy (copy a) = true
is_copy (flatten a) = true
is_copy (as_type a t) = true
is_copy (reshape a s) = true
is_copy e = false
