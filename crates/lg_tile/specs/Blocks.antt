-- The part of a list of items, block after block of the first axis. Only private functions speak of
-- it; that it is the part by indices is a lemma.
use Rattle.std.specs.Prelude.{ℕ, ◌+◌, ◌*◌, ◌-◌, ◌≤◌, List, [], ◌∷◌, flat_map, slice_range}
use Rattle.lg_space.specs.Rectangle.{numbers_in, volume_of}

-- the part's range is in the whole's on each axis
abbrev pub IsPart : List (ℕ × ℕ) → List (ℕ × ℕ) → Type 0
IsPart [] [] = Unit {0}
IsPart [] (some ∷ part) = ⊥
IsPart (all ∷ whole) [] = ⊥
IsPart (all ∷ whole) (some ∷ part) = (all.0 ≤ some.0) × (some.1 ≤ all.1) × IsPart whole part

-- the k-th block of so many items
abbrev pub block : {A : Type 0} → ℕ → List A → ℕ → List A
block size items k = slice_range items (k * size) (k * size + size)

abbrev pub section : {A : Type 0} → List (ℕ × ℕ) → List (ℕ × ℕ) → List A → List A
section (all ∷ whole) (some ∷ part) items =
    flat_map (λ i. section whole part (block (volume_of whole) items (i - all.0)))
    (numbers_in some)
section whole part items = items
