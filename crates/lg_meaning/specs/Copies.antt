-- Copies: `copy`, `astype`, `flatten` and `reshape`. Each may be written, without axes too. After
-- NumPy's reference, "numpy.ndarray.copy", "numpy.ndarray.astype", "numpy.ndarray.flatten" and
-- "numpy.reshape". That `reshape` always copies, and the order of faults, are this project's own.
use Rattle.std.specs.Prelude.{ℕ, ◌/◌, nat_le, ◌==◌, Bool, not, ◌&&◌, ◌||◌, if◌then◌else◌, List, [], ◌∷◌, length, map, filter, Result, ℤ, negsuc, int_le, unsigned_abs}
use Rattle.std.specs.List.{list_all}
use Rattle.lg_elem.specs.declared.dtype.DType.{DType}
use Rattle.lg_elem.specs.Types.{wrap}
use Rattle.lg_elem.specs.Operations.{is_negative}
use Rattle.lg_space.specs.declared.point.TheConstants.{MAX_AXES}
use Rattle.lg_shape.specs.Shapes.{size_of}
use Rattle.lg_meaning.specs.declared.fault.FaultKind.{FaultKind}
use Rattle.lg_meaning.specs.declared.fault.FaultKind.TheVariants.{Shape}
use Rattle.lg_meaning.specs.Faults.{from_part, needing}
use Rattle.lg_meaning.specs.Memory.{ArrayKind}
use Rattle.lg_meaning.specs.Static.{Static, as_array, integers, made}
use Rattle.lg_meaning.specs.Creation.{extents}
use Rattle.lg_meaning.specs.Value.{Value}

-- ---- the same elements

abbrev pub copy_static : Static → Result Static FaultKind
copy_static a = from_part (as_array a) (λ kind. made kind.dtype kind.shape)

-- on one axis
abbrev pub flatten_static : Static → Result Static FaultKind
flatten_static a = from_part (as_array a) (λ kind. made kind.dtype (size_of kind.shape ∷ []))

-- in row-major order in another shape
abbrev pub same_numbers : Value → ArrayKind → Value
same_numbers v kind = record { shape = kind.shape; numbers = v.numbers; fault = v.fault }

-- ---- another type

abbrev pub as_type_static : Static → DType → Result Static FaultKind
as_type_static a t = from_part (as_array a) (λ kind. made t kind.shape)

-- each number as the type has it
abbrev pub as_type_value : Value → ArrayKind → Value
as_type_value v kind =
    record { shape = kind.shape; numbers = map (wrap kind.dtype) v.numbers; fault = v.fault }

-- ---- another shape

-- the extents that are written, but for those below 0
abbrev pub known_extents : List ℤ → List ℕ
known_extents xs = extents (filter (λ x. not (is_negative x)) xs)

-- -1 stands for what the other extents leave
abbrev pub inferred : ℕ → List ℤ → List ℕ
inferred count xs =
    map (λ x. if is_negative x then count / size_of (known_extents xs) else unsigned_abs x) xs

-- no extent is below -1, at most one is -1, and it can be inferred: the others don't multiply to 0
abbrev pub can_be_inferred : List ℤ → Bool
can_be_inferred xs =
    list_all (int_le (negsuc 0)) xs
    && ((length (filter is_negative xs) == 0)
    || ((length (filter is_negative xs) == 1) && not (size_of (known_extents xs) == 0)))

-- as many elements as there are
abbrev pub is_reshape : ℕ → List ℤ → Bool
is_reshape count xs =
    nat_le (length xs) MAX_AXES && can_be_inferred xs && size_of (inferred count xs) == count

abbrev pub reshape_static : Static → List Static → Result Static FaultKind
reshape_static a parts = from_part (integers parts)
    (λ xs. from_part (as_array a)
    (λ kind. needing (is_reshape (size_of kind.shape) xs) Shape
    (made kind.dtype (inferred (size_of kind.shape) xs))))
