-- Lists with a member for each index of a shape.
use Rattle.std.proofs.Common.{◌≡◌, ℕ, List, [], ◌∷◌, length, map, get_or, slice_get, Option, Some, ℤ, pos, refl, sym, ap, ◌∙◌}
use Rattle.std.specs.Option.{unwrap_or}
use Rattle.std.proofs.lemmas.Option.{unwrap_or-slice_get}
use Rattle.lg_space.specs.Rectangle.{IsIn}
use Rattle.lg_space.proofs.Places.{stands_once}
use Rattle.lg_shape.specs.Shapes.{whole, places, place_of, size_of}
use Rattle.lg_tile.proofs.SectionLemmas.{map-map, map_along, whole_section}

-- over all indices of a shape
pub along : {B : Type 0} (shape : List ℕ) (f h : List ℕ → B) → ((index : List ℕ) → IsIn (whole shape) index → f index ≡ h index) → map f (places shape) ≡ map h (places shape)
along shape f h same = map_along f h (places shape) (λ k index at. same index (stands_once (whole shape) k index at).0)

-- a list by the places of a shape
pub by_places : (shape : List ℕ) (xs : List ℤ) → length xs ≡ size_of shape → map (λ index. get_or xs (place_of shape index) (pos 0)) (places shape) ≡ xs
by_places shape xs full =
    let unwrap : Option ℤ → ℤ = λ o. unwrap_or o (pos 0) in
    let section = whole_section (whole shape) (whole shape) xs refl full in
    sym (ap (map unwrap) section ∙ map-map unwrap (λ index. slice_get xs (place_of shape index)) (places shape)
    ∙ along shape _ (λ index. get_or xs (place_of shape index) (pos 0)) (λ index inside. unwrap_or-slice_get xs (place_of shape index) (pos 0)))
    ∙ unwrapped xs
  where
    unwrapped : (ys : List ℤ) → map (λ o. unwrap_or o (pos 0)) (map Some ys) ≡ ys
    unwrapped [] = refl
    unwrapped (y ∷ ys) = ap (y ∷◌) (unwrapped ys)
