-- What a tile has in common with parts of a root.
use Rattle.std.proofs.Common.{◌≡◌, ℕ, suc, ◌+◌, List, [], ◌∷◌, length, map, inl, inr, Some, option_map, slice_get, refl, sym, ap, subst, ◌∙◌, arith}
use Rattle.std.proofs.lemmas.Bool.{cases_eq}
use Rattle.std.proofs.lemmas.Option.{slice_get-map, same_Some}
use Rattle.lg_space.specs.Partition.{Disjoint}
use Rattle.lg_space.specs.Rectangle.{IsIn}
use Rattle.lg_tile.specs.declared.any_tile.AnyTile.{AnyTile}
use Rattle.lg_tile.specs.Tiles.{dtype_of, number_at, rect_of}
use Rattle.lg_copy.specs.Leading.{AreAlike, HasParts, IsOfType}

pub length_in : (rect : List (ℕ × ℕ)) (index : List ℕ) → IsIn rect index → length index ≡ length rect
length_in [] [] h = refl
length_in [] (i ∷ index) h = absurd h
length_in (range ∷ rect) [] h = absurd h
length_in (range ∷ rect) (i ∷ index) h = ap suc (length_in rect index h.2)

-- where the axes are not as many, there is no index in common
pub no_common : (first second : List (ℕ × ℕ)) (index : List ℕ) → (length first ≡ length second → ⊥) → IsIn first index → IsIn second index → ⊥
no_common first second index ne a b = ne (sym (length_in first index a) ∙ length_in second index b)

-- ---- parts

-- the rectangle of a part stands among those of all
pub part_rect : (parts : List AnyTile) (k : ℕ) (part : AnyTile) → slice_get parts k ≡ Some part → slice_get (map rect_of parts) k ≡ Some (rect_of part)
part_rect parts k part at = slice_get-map rect_of parts k ∙ ap (option_map rect_of) at

-- an index is in one part alone
pub one_part : (parts : List AnyTile) (j k : ℕ) (a b : AnyTile) (index : List ℕ) → Disjoint (map rect_of parts) → slice_get parts j ≡ Some a → slice_get parts k ≡ Some b
    → IsIn (rect_of a) index → IsIn (rect_of b) index → j ≡ k
one_part parts j k a b index apart at there in_a in_b = apart j k (rect_of a) (rect_of b) index (part_rect parts j a at) (part_rect parts k b there) in_a in_b

-- and then they are the same
pub same_part : (parts : List AnyTile) (j k : ℕ) (a b : AnyTile) (index : List ℕ) → Disjoint (map rect_of parts) → slice_get parts j ≡ Some a → slice_get parts k ≡ Some b
    → IsIn (rect_of a) index → IsIn (rect_of b) index → a ≡ b
same_part parts j k a b index apart at there in_a in_b =
    same_Some a b (sym at ∙ ap (slice_get parts) (one_part parts j k a b index apart at there in_a in_b) ∙ there)

-- all parts have the type of one of them
pub of_type : (parts : List AnyTile) (j : ℕ) (a tile : AnyTile) → AreAlike parts → slice_get parts j ≡ Some a → dtype_of tile ≡ dtype_of a → IsOfType parts tile
of_type parts j a tile alike at same k b there = same ∙ alike j k a b at there

pub still_of_type : (parts : List AnyTile) (old new : AnyTile) → IsOfType parts old → dtype_of new ≡ dtype_of old → IsOfType parts new
still_of_type parts old new of same k part at = same ∙ of k part at

-- no part yet
pub parts_none : (parts : List AnyTile) (tile : AnyTile) → HasParts parts 0 tile
parts_none parts tile k part index few at in_tile in_part = absurd (omega (arith, few))

-- one part more
pub parts_more : (parts : List AnyTile) (count : ℕ) (part old new : AnyTile) → Disjoint (map rect_of parts) → slice_get parts count ≡ Some part → rect_of new ≡ rect_of old
    → ((index : List ℕ) → IsIn (rect_of old) index → IsIn (rect_of part) index → number_at new index ≡ number_at part index)
    → ((index : List ℕ) → IsIn (rect_of old) index → (IsIn (rect_of part) index → ⊥) → number_at new index ≡ number_at old index)
    → HasParts parts count old → HasParts parts (count + 1) new
parts_more parts count part old new apart at rect copied kept before k other index few there in_new in_other =
    let in_old : IsIn (rect_of old) index = subst (λ r. IsIn r index) rect in_new in
    elim (cases_eq k count) [
      | inl e ↦
          (let same : part ≡ other = same_Some part other (sym at ∙ ap (slice_get parts) (sym e) ∙ there) in
          copied index in_old (subst (λ p. IsIn (rect_of p) index) (sym same) in_other) ∙ ap (λ p. number_at p index) same)
      | inr ne ↦
          kept index in_old (λ in_part. ne (one_part parts k count other part index apart there at in_other in_part))
          ∙ before k other index (omega (arith, few)) there in_old in_other
    ]
