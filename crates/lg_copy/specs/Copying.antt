-- What a copy between two lists does, and which places it goes between. After NumPy's reference,
-- "Internal memory layout of an ndarray": a stride for each axis at either side, which may be
-- negative.
use Rattle.std.specs.Prelude.{◌≡◌, ◌⊎◌, ℕ, ◌<◌, ◌≤◌, ◌-◌, List, [], ◌∷◌, length, slice_get, ℤ, pos, ◌+ℤ◌, ◌*ℤ◌, ◌≤ℤ◌, ◌<ℤ◌}
use Rattle.lg_space.specs.Stored.{MAX_VOLUME}
use Rattle.lg_copy.specs.declared.axis.Axis.{Axis}

-- each place holds an element that goes there, and where none goes, what it held
pub record Copied {T : Type 0} (source old new : List T) (goes : ℕ → ℕ → Type 0) : Type 0 where
  pub same_length : length new ≡ length old
  pub each : (q : ℕ) → ((s : ℕ) × goes s q × (slice_get new q ≡ slice_get source s))
      ⊎ (((s : ℕ) → goes s q → ⊥) × (slice_get new q ≡ slice_get old q))

-- there is a coordinate for each axis, below its count
abbrev pub IsAmong : List Axis → List ℕ → Type 0
IsAmong [] [] = Unit {0}
IsAmong [] (i ∷ index) = ⊥
IsAmong (axis ∷ axes) [] = ⊥
IsAmong (axis ∷ axes) (i ∷ index) = (i < axis.count) × IsAmong axes index

-- how far an index is from the first one in the source: each coordinate, times the stride there
abbrev pub way_from : List Axis → List ℕ → ℤ
way_from [] index = pos 0
way_from (axis ∷ axes) [] = pos 0
way_from (axis ∷ axes) (i ∷ index) = (pos i *ℤ axis.from) +ℤ way_from axes index

-- and in the target
abbrev pub way_to : List Axis → List ℕ → ℤ
way_to [] index = pos 0
way_to (axis ∷ axes) [] = pos 0
way_to (axis ∷ axes) (i ∷ index) = (pos i *ℤ axis.to) +ℤ way_to axes index

-- the axes of a copy: the counts are those of a rectangle, and each has a stride at either side
abbrev pub axes_over : List (ℕ × ℕ) → List ℤ → List ℤ → List Axis
axes_over [] reads writes = []
axes_over (range ∷ rect) [] writes = []
axes_over (range ∷ rect) (read ∷ reads) [] = []
axes_over (range ∷ rect) (read ∷ reads) (write ∷ writes) =
    record { count = range.1 - range.0; from = read; to = write } ∷ axes_over rect reads writes

-- one axis, with one coordinate
abbrev pub IsSingle : List Axis → Type 0
IsSingle [] = ⊥
IsSingle (axis ∷ []) = axis.count ≡ 1
IsSingle (axis ∷ other ∷ axes) = ⊥

-- some index has this place in the source and that one in the target
pub record Goes (from to : ℕ) (axes : List Axis) (s q : ℕ) : Type 0 where
  pub index : List ℕ
  pub among : IsAmong axes index
  pub source : pos s ≡ pos from +ℤ way_from axes index
  pub target : pos q ≡ pos to +ℤ way_to axes index

-- a place of a list of this length
pub record IsPlace (at : ℤ) (size : ℕ) : Type 0 where
  pub low : pos 0 ≤ℤ at
  pub high : at <ℤ pos size

-- no axis is without coordinates
abbrev pub AreSome : List Axis → Type 0
AreSome [] = Unit {0}
AreSome (axis ∷ axes) = (0 < axis.count) × AreSome axes

-- no axis has more coordinates than a tile has elements
abbrev pub AreSmall : List Axis → Type 0
AreSmall [] = Unit {0}
AreSmall (axis ∷ axes) = (axis.count ≤ MAX_VOLUME) × AreSmall axes

-- each index has a place in both lists
pub record Fits (from to : ℕ) (axes : List Axis) (source target : ℕ) : Type 0 where
  pub some : AreSome axes
  pub reads : (index : List ℕ) → IsAmong axes index
      → IsPlace (pos from +ℤ way_from axes index) source
  pub writes : (index : List ℕ) → IsAmong axes index
      → IsPlace (pos to +ℤ way_to axes index) target

-- the same for one axis: so many coordinates, with a stride at either side
pub record GoesAlong (from to count : ℕ) (step_from step_to : ℤ) (s q : ℕ) : Type 0 where
  pub k : ℕ
  pub below : k < count
  pub source : pos s ≡ pos from +ℤ (pos k *ℤ step_from)
  pub target : pos q ≡ pos to +ℤ (pos k *ℤ step_to)

pub record FitsAlong (from to count : ℕ) (step_from step_to : ℤ) (source target : ℕ) : Type 0 where
  pub reads : (k : ℕ) → k < count → IsPlace (pos from +ℤ (pos k *ℤ step_from)) source
  pub writes : (k : ℕ) → k < count → IsPlace (pos to +ℤ (pos k *ℤ step_to)) target
