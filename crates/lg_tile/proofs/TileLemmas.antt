-- The places of a tile's elements.
use Rattle.std.proofs.Common.{◌≡◌, ℕ, ◌<◌, List, Some, get_or, slice_get, vec_len, arith}
use Rattle.std.proofs.lemmas.Option.{slice_get_read}
use Rattle.lg_space.specs.Rectangle.{IsIn, place_in}
use Rattle.lg_space.proofs.Places.{place-below}
use Rattle.lg_tile.specs.declared.tile.Tile.{Tile}

-- at the place of an index there is an element
pub place_within : {T : Type 0} (t : Tile T) (index : List ℕ) → IsIn t.rect index → place_in t.rect index < vec_len t.items
place_within t index inside = omega (arith, place-below t.rect index inside, t.full, t.items.ok.0)

-- and what is read there is that element
pub element_read : {T : Type 0} (t : Tile T) (index : List ℕ) (items : List T) (place : ℕ) (x : T) → IsIn t.rect index → place ≡ place_in t.rect index → items ≡ t.items.items
    → x ≡ get_or items place x → slice_get t.items.items (place_in t.rect index) ≡ Some x
element_read t index items place x inside at same read = slice_get_read t.items.items t.items.len (place_in t.rect index) x t.items.ok.0 (place_within t index inside) (cc)
