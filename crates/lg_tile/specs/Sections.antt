-- The part of a list of items that lie over a rectangle. After NumPy's reference, "Slicing and
-- striding", on ranges alone.
use Rattle.std.specs.Prelude.{◌≡◌, ℕ, List, map, Some, slice_get}
use Rattle.lg_space.specs.Rectangle.{IsIn, indices, place_in}
use Rattle.lg_tile.specs.declared.section.Section.{Section}
use Rattle.lg_tile.specs.declared.section.Section.TheVariants.{Lent, Copied}

-- each index of the part is one of the whole
abbrev pub Covers : List (ℕ × ℕ) → List (ℕ × ℕ) → Type 0
Covers whole part = (index : List ℕ) → IsIn part index → IsIn whole index

-- the members are, at each index of the part in row-major order, the item that stands at that index
-- in the whole
abbrev pub IsSection : {A : Type 0} → List (ℕ × ℕ) → List (ℕ × ℕ) → List A → List A → Type 0
IsSection whole part items members =
    map Some members ≡ map (λ index. slice_get items (place_in whole index)) (indices part)

-- the members that a section lends
abbrev pub section_items : {T : Type 0} → Section T → List T
section_items (Lent items) = items.now
section_items (Copied items) = items.items
