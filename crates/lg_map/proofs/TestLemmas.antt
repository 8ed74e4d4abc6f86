-- What the tests' tiles cover.
use Rattle.std.proofs.Common.{◌≡◌, ℕ, ◌+◌, [], ◌∷◌, sym, subst, arith}
use Rattle.lg_tile.specs.declared.any_tile.AnyTile.{AnyTile}
use Rattle.lg_tile.specs.Sections.{Covers}
use Rattle.lg_tile.specs.Tiles.{rect_of}
use Rattle.lg_tile.proofs.SectionLemmas.{part_covers}

-- a row of four elements has the two in its middle
pub middle_covered : (tile : AnyTile) (n : ℕ) → rect_of tile ≡ (10, 10 + n) ∷ [] → n ≡ 4 → Covers (rect_of tile) ((11, 13) ∷ [])
middle_covered tile n is four = subst (λ rect. Covers rect ((11, 13) ∷ [])) (sym is) (part_covers ((10, 10 + n) ∷ []) ((11, 13) ∷ []) (omega arith, omega arith, tt))
