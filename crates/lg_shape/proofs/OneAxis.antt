-- One axis alone: its tiles are its parts, and each part begins where the one before it ends.
use Rattle.std.proofs.Common.{◌≡◌, ℕ, ◌+◌, ◌*◌, ◌<◌, ◌≤◌, min, Bool, false, List, [], ◌∷◌, map, Some, slice_get, ◌∙◌, arith}
use Rattle.std.proofs.lemmas.List.Concat.{flat_map_single}
use Rattle.lg_shape.specs.Tiling.{part_extent, part_count, parts, tiles}
use Rattle.lg_shape.proofs.Parts.{parts_cut, cut_at}

-- the tiles of a shape of one axis are the parts of that axis
pub tiles-one_axis : (pieces n : ℕ) (rest : List Bool) → tiles pieces (n ∷ []) (false ∷ rest) ≡ map (λ range. range ∷ []) (parts pieces n)
tiles-one_axis pieces n rest = flat_map_single (λ range. range ∷ []) (parts pieces n)

-- where the part of this number begins, and where the part before it ends. The number of parts is
-- allowed here too
abbrev pub border : ℕ → ℕ → ℕ → ℕ
border pieces n number = min n (number * part_extent pieces n)

pub border_first : (pieces n : ℕ) → border pieces n 0 ≡ 0
border_first pieces n = omega arith

pub border_last : (pieces n : ℕ) → 1 ≤ pieces → border pieces n (part_count pieces n) ≡ n
border_last pieces n h = omega (arith, (parts_cut pieces n h).reaches)

-- the parts lie from border to border
pub part_between : (pieces n number : ℕ) → 1 ≤ pieces → number < part_count pieces n → slice_get (parts pieces n) number ≡ Some (border pieces n number, border pieces n (number + 1))
part_between pieces n number h below =
    let low : number * part_extent pieces n ≡ border pieces n number = omega (arith, (parts_cut pieces n h).begins number below) in
    cut_at n (part_extent pieces n) (part_count pieces n) number below ∙ (λ i. Some (low i, border pieces n (number + 1)))
