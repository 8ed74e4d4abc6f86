-- Views of a root as lists of places, and the steps that make one view of another. The steps bear
-- the names of Legate's store transformations; their rules are this project's own. A slice is after
-- NumPy's reference, "Indexing on ndarrays", a transpose after "numpy.transpose".
use Rattle.std.specs.Prelude.{◌≡◌, ◌≢◌, ℕ, suc, ◌+◌, ◌-◌, ◌*◌, ◌<◌, ◌≤◌, ◌⊎◌, List, [], ◌∷◌, length, take, map, insert, remove, slice_set, slice_index_or, ℤ, pos, negsuc, IsPermutation}
use Rattle.std.specs.List.{range_with_len}
use Rattle.lg_shape.specs.Shapes.{size_of, places, place_of}
use Rattle.lg_shape.specs.declared.step.Step.{Step}
use Rattle.lg_shape.specs.declared.step.Step.TheVariants.{Promote, Project, Slice, Transpose, Delinearize}

-- what a view has of its root: a shape, and for each of its indices, in row-major order, a flat
-- place of the root
pub record Layout : Type 0 where
  pub shape : List ℕ
  pub places : List ℕ

-- the view of the whole root
abbrev pub whole_layout : List ℕ → Layout
whole_layout shape = record { shape = shape; places = range_with_len 0 (size_of shape) }

-- the place that a view has at an index
abbrev pub place_at : Layout → List ℕ → ℕ
place_at layout index = slice_index_or layout.places (place_of layout.shape index) 0

-- the coordinate that a slice has at k
abbrev pub sliced_at : ℕ → ℤ → ℕ → ℕ
sliced_at start (pos step) k = start + k * step
sliced_at start (negsuc step) k = start - k * suc step

-- an index in which each coordinate is put at the axis that it comes from
abbrev pub put_at : List ℕ → List ℕ → List ℕ → List ℕ
put_at [] index at = at
put_at (axis ∷ axes) [] at = at
put_at (axis ∷ axes) (i ∷ index) at = put_at axes index (slice_set at axis i)

-- the shape of a view after a step
abbrev pub shape_after : Step → List ℕ → List ℕ
shape_after (Promote axis extent) shape = insert shape axis extent
shape_after (Project axis index) shape = remove shape axis
shape_after (Slice axis start len step) shape = slice_set shape axis len
shape_after (Transpose axes) shape =
    map (λ axis. slice_index_or shape axis 1) (take (length shape) axes)
shape_after (Delinearize sizes) shape = sizes

-- the index before a step that belongs to an index after it
abbrev pub index_before : Step → List ℕ → List ℕ
index_before (Promote axis extent) index = remove index axis
index_before (Project axis at) index = insert index axis at
index_before (Slice axis start len step) index =
    slice_set index axis (sliced_at start step (slice_index_or index axis 0))
index_before (Transpose axes) index = put_at (take (length index) axes) index index
index_before (Delinearize sizes) index = place_of sizes index ∷ []

-- a view after a step: at each index it has the place that the view had at the index before
abbrev pub stepped : Step → Layout → Layout
stepped step layout = record {
  shape = shape_after step layout.shape;
  places =
      map (λ index. place_at layout (index_before step index))
      (places (shape_after step layout.shape));
}

-- a view after several steps, the first one first
abbrev pub all_stepped : List Step → Layout → Layout
all_stepped [] layout = layout
all_stepped (step ∷ steps) layout = all_stepped steps (stepped step layout)

-- so many coordinates from a start on, a step apart, all lie in an axis of this extent
abbrev pub IsSliceOf : ℕ → ℕ → ℤ → ℕ → Type 0
IsSliceOf start len (pos step) extent =
    (step ≢ 0) × (start ≤ extent) × ((len ≡ 0) ⊎ (start + (len - 1) * step < extent))
IsSliceOf start len (negsuc step) extent =
    (start ≤ extent) × ((len ≡ 0) ⊎ ((start < extent) × ((len - 1) * suc step ≤ start)))

-- the step's axis, index and range lie in a view of this shape
abbrev pub IsStepOf : Step → List ℕ → Type 0
IsStepOf (Promote axis extent) shape = axis ≤ length shape
IsStepOf (Project axis index) shape = (axis < length shape) × (index < slice_index_or shape axis 0)
IsStepOf (Slice axis start len step) shape =
    (axis < length shape) × IsSliceOf start len step (slice_index_or shape axis 0)
IsStepOf (Transpose axes) shape =
    IsPermutation (range_with_len 0 (length shape)) (take (length shape) axes)
IsStepOf (Delinearize sizes) shape = shape ≡ size_of sizes ∷ []
