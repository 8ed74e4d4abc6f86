-- Which part of a root a tile of a view leads to. This project's own.
use Rattle.std.specs.Prelude.{◌≡◌, ◌⊎◌, ◌↔◌, ℕ, ◌≤◌, Bool, true, false, List, length, slice_index_or, pos, negsuc}
use Rattle.lg_space.specs.Rectangle.{IsIn}
use Rattle.lg_shape.specs.Shapes.{whole}
use Rattle.lg_shape.specs.declared.step.Step.{Step}
use Rattle.lg_shape.specs.declared.step.Step.TheVariants.{Promote, Project, Slice, Transpose, Delinearize}
use Rattle.lg_xform.specs.declared.chain.Chain.{Chain}
use Rattle.lg_xform.specs.Chains.{shape_of, inner_of, mapped}

-- a tile of a view: its indices are indices of the view, and it is whole on the inner axes
pub record IsTile (shape : List ℕ) (inner : List Bool) (tile : List (ℕ × ℕ)) : Type 0 where
  pub axes : length tile ≡ length shape
  pub within : (index : List ℕ) → IsIn tile index → IsIn (whole shape) index
  pub all : (axis : ℕ) → slice_index_or inner axis false ≡ true
      → slice_index_or tile axis (0, 0) ≡ (0, slice_index_or shape axis 0)

-- some index of the tile leads to this root index, by the map of a view
abbrev pub LeadsTo : (List ℕ → List ℕ) → List (ℕ × ℕ) → List ℕ → Type 0
LeadsTo lead tile at = (index : List ℕ) × IsIn tile index × (lead index ≡ at)

-- the rectangle has exactly the root indices that the tile leads to
abbrev pub IsFootprint : (List ℕ → List ℕ) → List (ℕ × ℕ) → List (ℕ × ℕ) → Type 0
IsFootprint lead tile rect = (at : List ℕ) → IsIn rect at ↔ LeadsTo lead tile at

-- each tile that has an index leads to a rectangle without holes
abbrev pub HasNoHoles : List ℕ → List Bool → (List ℕ → List ℕ) → Type 0
HasNoHoles shape inner lead = (tile : List (ℕ × ℕ)) (first : List ℕ) → IsTile shape inner tile
    → IsIn tile first → (rect : List (ℕ × ℕ)) × IsFootprint lead tile rect

-- the view has no holes
abbrev pub IsDense : Chain → Type 0
IsDense c = HasNoHoles (shape_of c) (inner_of c) (mapped c)

-- a step that makes no holes: a slice does not skip a coordinate
abbrev pub IsDenseStep : Step → Type 0
IsDenseStep (Promote axis extent) = Unit {0}
IsDenseStep (Project axis index) = Unit {0}
IsDenseStep (Slice axis start len step) = (step ≡ pos 1) ⊎ ((step ≡ negsuc 0) ⊎ (len ≤ 1))
IsDenseStep (Transpose axes) = Unit {0}
IsDenseStep (Delinearize sizes) = Unit {0}
