-- Which forms the functions that write expressions share among them.
use Rattle.std.specs.Prelude.{Bool, true, false}
use Rattle.lg_tree.specs.Tree.{Tree, full, zeros, ones, arange, array, abs, minimum, maximum, choose, reduce, take, transpose, broadcast_to, stencil, copy, flatten, as_type, reshape, apply, scan}

-- a call that makes an array of numbers
abbrev pub is_maker : Tree → Bool
is_maker (full s x t) = true
is_maker (zeros s t) = true
is_maker (ones s t) = true
is_maker (arange from to t) = true
is_maker (array l t) = true
is_maker _ = false

-- a call that computes with elements
abbrev pub is_computation : Tree → Bool
is_computation (abs a) = true
is_computation (minimum a b) = true
is_computation (maximum a b) = true
is_computation (choose c a b) = true
is_computation (reduce r a axis) = true
is_computation (take a i axis) = true
is_computation (stencil a l) = true
is_computation (apply w a b) = true
is_computation (scan c a axis) = true
is_computation _ = false

-- a call or a method that gives an array another form
abbrev pub is_change : Tree → Bool
is_change (transpose a s) = true
is_change (broadcast_to a s) = true
is_change (copy a) = true
is_change (flatten a) = true
is_change (as_type a t) = true
is_change (reshape a s) = true
is_change _ = false
