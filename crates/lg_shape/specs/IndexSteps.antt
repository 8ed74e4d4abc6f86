-- The steps of an index, from left to right: first those for integers and slices, and then, on the
-- axes that are left, those for new axes. So no shape on the way has more axes than the first or
-- the last one. Only functions that no other crate calls speak of them: what the steps lead to is
-- said by `Picks`.
use Rattle.std.specs.Prelude.{ℕ, suc, ◌+◌, ◌-◌, List, [], ◌∷◌, drop, ℤ, pos, negsuc, ◌+ℤ◌}
use Rattle.lg_shape.specs.Indexing.{coordinate, kept_range}
use Rattle.lg_shape.specs.declared.step.Step.{Step}
use Rattle.lg_shape.specs.declared.step.Step.TheVariants.{Promote, Project, Slice}
use Rattle.lg_shape.specs.declared.index.IndexItem.{IndexItem}
use Rattle.lg_shape.specs.declared.index.IndexItem.TheVariants.{At, Slice as Range, NewAxis, Ellipsis}

-- the steps for integers and slices, where the first of these axes has this number
abbrev pub cut_steps : ℕ → ℕ → List ℕ → List IndexItem → List Step
cut_steps axis missing shape [] = []
cut_steps axis missing shape (NewAxis ∷ items) = cut_steps axis missing shape items
cut_steps axis missing shape (Ellipsis ∷ items) =
    cut_steps (axis + missing) missing (drop missing shape) items
cut_steps axis missing [] (At k ∷ items) = []
cut_steps axis missing (extent ∷ shape) (At k ∷ items) =
    Project axis (coordinate extent k) ∷ cut_steps axis missing shape items
cut_steps axis missing [] (Range start stop step ∷ items) = []
cut_steps axis missing (extent ∷ shape) (Range start stop step ∷ items) =
    Slice axis (kept_range extent start stop).0
    ((kept_range extent start stop).1 - (kept_range extent start stop).0) (pos 1)
    ∷ cut_steps (suc axis) missing shape items

-- the steps for new axes
abbrev pub promote_steps : ℕ → ℕ → List IndexItem → List Step
promote_steps axis missing [] = []
promote_steps axis missing (NewAxis ∷ items) =
    Promote axis 1 ∷ promote_steps (suc axis) missing items
promote_steps axis missing (Ellipsis ∷ items) = promote_steps (axis + missing) missing items
promote_steps axis missing (At k ∷ items) = promote_steps axis missing items
promote_steps axis missing (Range start stop step ∷ items) = promote_steps (suc axis) missing items

-- ---- numbers and counts

-- a number that counts from the end where it is below 0
abbrev pub counted_from_start : ℕ → ℤ → ℤ
counted_from_start extent (pos k) = pos k
counted_from_start extent (negsuc k) = negsuc k +ℤ pos extent

-- how many are integers
abbrev pub integers : List IndexItem → ℕ
integers [] = 0
integers (At k ∷ items) = suc (integers items)
integers (Range start stop step ∷ items) = integers items
integers (NewAxis ∷ items) = integers items
integers (Ellipsis ∷ items) = integers items

-- how many are new axes
abbrev pub added_axes : List IndexItem → ℕ
added_axes [] = 0
added_axes (At k ∷ items) = added_axes items
added_axes (Range start stop step ∷ items) = added_axes items
added_axes (NewAxis ∷ items) = suc (added_axes items)
added_axes (Ellipsis ∷ items) = added_axes items

-- how many axes the items take, where `...` takes so many
abbrev pub taken_axes : ℕ → List IndexItem → ℕ
taken_axes missing [] = 0
taken_axes missing (At k ∷ items) = suc (taken_axes missing items)
taken_axes missing (Range start stop step ∷ items) = suc (taken_axes missing items)
taken_axes missing (NewAxis ∷ items) = taken_axes missing items
taken_axes missing (Ellipsis ∷ items) = missing + taken_axes missing items
