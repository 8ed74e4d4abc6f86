-- What a chain stands for: a view of a root. This project's own.
use Rattle.std.specs.Prelude.{◌≡◌, ℕ, Bool, true, false, List, [], ◌∷◌, length, take, map, insert, remove, slice_index_or, All}
use Rattle.lg_space.specs.Rectangle.{IsIn}
use Rattle.lg_shape.specs.Shapes.{places, place_of, whole}
use Rattle.lg_shape.specs.Stored.{IsShape}
use Rattle.lg_shape.specs.Views.{Layout, whole_layout, stepped, shape_after, index_before, IsStepOf}
use Rattle.lg_shape.specs.declared.step.Step.{Step}
use Rattle.lg_shape.specs.declared.step.Step.TheVariants.{Promote, Project, Slice, Transpose, Delinearize}
use Rattle.lg_xform.specs.declared.axis.ViewAxis.{ViewAxis}
use Rattle.lg_xform.specs.declared.chain.Chain.{Chain}
use Rattle.lg_xform.specs.Moves.{extents_of, moved}

-- the extents of the root
abbrev pub root_of : Chain → List ℕ
root_of c = c.root

-- the axes of the view
abbrev pub axes_of : Chain → List ViewAxis
axes_of c = take c.count c.axes

-- the extents of the view
abbrev pub shape_of : Chain → List ℕ
shape_of c = extents_of (axes_of c)

-- the root index that an index of the view leads to
abbrev pub mapped : Chain → List ℕ → List ℕ
mapped c index = take (length c.root) (moved c.from (axes_of c) index)

-- whether each axis is one that a delinearize made, but not as the first of its axes
abbrev pub inner_of : Chain → List Bool
inner_of c = map (λ (axis : ViewAxis). axis.inner) (axes_of c)

-- the view: a shape, and the flat place of the root that each of its indices leads to
abbrev pub layout_of : Chain → Layout
layout_of c = record {
  shape = shape_of c;
  places = map (λ index. place_of (root_of c) (mapped c index)) (places (shape_of c));
}

-- the inner axes after a step
abbrev pub inner_after : Step → List Bool → List Bool
inner_after (Promote axis extent) inner = insert inner axis false
inner_after (Project axis index) inner = remove inner axis
inner_after (Slice axis start len step) inner = inner
inner_after (Transpose axes) inner =
    map (λ axis. slice_index_or inner axis false) (take (length inner) axes)
inner_after (Delinearize []) inner = []
inner_after (Delinearize (size ∷ sizes)) inner = false ∷ map (λ size. true) sizes

-- no axis was split
abbrev pub IsUnsplit : List Bool → Type 0
IsUnsplit inner = All (λ axis. axis ≡ false) inner

-- which steps may follow, by what was split: a whole root is split alone, and then nothing is cut
abbrev pub MayFollow : Step → List ℕ → Layout → List Bool → Type 0
MayFollow (Promote axis extent) root layout inner = Unit {0}
MayFollow (Project axis index) root layout inner = IsUnsplit inner
MayFollow (Slice axis start len step) root layout inner = IsUnsplit inner
MayFollow (Transpose axes) root layout inner = Unit {0}
MayFollow (Delinearize sizes) root layout inner = layout ≡ whole_layout root

-- the step may be taken from this view of the root
pub record IsChainStep (step : Step) (root : List ℕ) (layout : Layout) (inner : List Bool)
    : Type 0 where
  pub step_of : IsStepOf step layout.shape
  pub shape : IsShape (shape_after step layout.shape)
  pub follows : MayFollow step root layout inner

-- the steps may be taken, one after the other
abbrev pub AreChainSteps : List Step → List ℕ → Layout → List Bool → Type 0
AreChainSteps [] root layout inner = Unit {0}
AreChainSteps (step ∷ steps) root layout inner =
    IsChainStep step root layout inner
    × AreChainSteps steps root (stepped step layout) (inner_after step inner)

-- the inner axes after several steps
abbrev pub all_inner : List Step → List Bool → List Bool
all_inner [] inner = inner
all_inner (step ∷ steps) inner = all_inner steps (inner_after step inner)

-- a chain after a step: each index of the new view leads where the index before the step led
pub record IsStepped (step : Step) (old new : Chain) : Type 0 where
  pub root : root_of new ≡ root_of old
  pub shape : shape_of new ≡ shape_after step (shape_of old)
  pub mapped : (index : List ℕ) → IsIn (whole (shape_of new)) index
      → mapped new index ≡ mapped old (index_before step index)
  pub inner : inner_of new ≡ inner_after step (inner_of old)
