-- Printed text: Python's text of numbers, truth values and nested lists of them, and a line end.
use Rattle.std.specs.Prelude.{ℕ, suc, zero, List, [], ◌∷◌, ◌++◌, map, take, drop, codes, ℤ, pos, slice_index_or, if◌then◌else◌}
use Rattle.std.specs.Fmt.{signed_decimal}
use Rattle.lg_elem.specs.declared.dtype.DType.{DType}
use Rattle.lg_elem.specs.declared.dtype.DType.TheVariants.{Bool as Truth, Int64}
use Rattle.lg_elem.specs.Operations.{is_zero}
use Rattle.lg_shape.specs.Shapes.{size_of}
use Rattle.lg_meaning.specs.Weak as weak
use Rattle.lg_meaning.specs.Weak.{Weak, number_of}
use Rattle.lg_meaning.specs.Static.{Static, weak_value, array_value}

-- an element of a type: a truth value as a word, a number in decimal
abbrev pub element_text : DType → ℤ → List ℕ
element_text Truth x = if is_zero x then codes "False" else codes "True"
element_text t x = signed_decimal x

-- the pieces with a comma and a blank between each two
abbrev pub separated : List (List ℕ) → List ℕ
separated [] = []
separated (piece ∷ []) = piece
separated (piece ∷ next ∷ pieces) = piece ++ (codes ", " ++ separated (next ∷ pieces))

-- so many rows of one size
abbrev pub rows : ℕ → ℕ → List ℤ → List (List ℤ)
rows zero size numbers = []
rows (suc n) size numbers = take size numbers ∷ rows n size (drop size numbers)

-- an element, or a list with a member for each index of the first axis
abbrev pub nested : DType → List ℕ → List ℤ → List ℕ
nested t [] numbers = element_text t (slice_index_or numbers 0 (pos 0))
nested t (extent ∷ extents) numbers = codes "["
    ++ (separated (map (nested t extents) (rows extent (size_of extents) numbers)) ++ codes "]")

-- what `print` writes of an array of this type, shape and numbers
abbrev pub printed : DType → List ℕ → List ℤ → List ℕ
printed t shape numbers = nested t shape numbers ++ 10 ∷ []

-- a weak number prints as an element of its kind
abbrev pub printed_type : Static → DType
printed_type (weak_value (weak.integer x)) = Int64
printed_type (weak_value (weak.truth b)) = Truth
printed_type (array_value kind) = kind.dtype
