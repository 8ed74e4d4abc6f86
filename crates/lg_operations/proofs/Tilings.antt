-- What is evaluated tile after tile is what is evaluated at once.
use Rattle.std.proofs.Common.{◌≡◌, ℕ, ◌+◌, ◌≤◌, List, [], ◌∷◌, ◌++◌, length, map, take, slice_get, Some, ℤ, refl, sym, ap, ◌∙◌}
use Rattle.std.specs.List.{flat_map}
use Rattle.std.proofs.lemmas.List.Concat.{flat_map-append}
use Rattle.std.proofs.lemmas.List.{append-nil, map-append, length-map, take_all}
use Rattle.lg_elem.specs.declared.kinds.Flag.{Flag}
use Rattle.lg_elem.specs.declared.kinds.Flag.TheVariants.{Clear, Divisor, Power}
use Rattle.lg_space.specs.Rectangle.{indices, volume_of}
use Rattle.lg_space.proofs.Places.{volume_counts}
use Rattle.lg_part.proofs.Grids.{take_one_more}
use Rattle.lg_map.specs.Mapping.{first_flag}

-- ---- the first flag

alone : (flag : Flag) → first_flag (flag ∷ []) ≡ flag
alone Clear = refl
alone Divisor = refl
alone Power = refl

first_flag-append : (xs ys : List Flag) → first_flag (xs ++ ys) ≡ first_flag (first_flag xs ∷ first_flag ys ∷ [])
first_flag-append [] ys = sym (alone (first_flag ys))
first_flag-append (Clear ∷ xs) ys = first_flag-append xs ys
first_flag-append (Divisor ∷ xs) ys = refl
first_flag-append (Power ∷ xs) ys = refl

-- ---- tile after tile

map-flat_map : {A B C : Type 0} (f : B → C) (h : A → List B) (xs : List A) → map f (flat_map h xs) ≡ flat_map (λ x. map f (h x)) xs
map-flat_map f h [] = refl
map-flat_map f h (x ∷ xs) = map-append f (h x) (flat_map h xs) ∙ ap (map f (h x) ++◌) (map-flat_map f h xs)

-- the numbers and the first flag of these tiles, where each index has a number and a flag
pub record Rows (value : List ℕ → ℤ) (flag_at : List ℕ → Flag) {T : Type 0} (number : T → ℤ) (items : List T) (flag : Flag) (done : List (List (ℕ × ℕ))) : Type 0 where
  pub made : map number items ≡ flat_map (λ rect. map value (indices rect)) done
  pub first : flag ≡ first_flag (flat_map (λ rect. map flag_at (indices rect)) done)

module _ (value : List ℕ → ℤ) (flag_at : List ℕ → Flag) {T : Type 0} (number : T → ℤ) where
  pub rows_more : (items next : List T) (flag new last : Flag) (rects : List (List (ℕ × ℕ))) (k : ℕ) (rect : List (ℕ × ℕ))
      → Rows value flag_at number items flag (take k rects) → slice_get rects k ≡ Some rect
      → map number next ≡ map number items ++ map value (indices rect) → new ≡ first_flag (map flag_at (indices rect)) → last ≡ first_flag (flag ∷ new ∷ [])
      → Rows value flag_at number next last (take (k + 1) rects)
  rows_more items next flag new last rects k rect rows at numbers flags both =
      let more = take_one_more rects k rect at in
      let values : List (ℕ × ℕ) → List ℤ = λ r. map value (indices r) in
      let flag_list : List (ℕ × ℕ) → List Flag = λ r. map flag_at (indices r) in
      record {
        made = numbers ∙ ap (λ l. l ++ values rect) rows.made ∙ ap (flat_map values (take k rects) ++◌) (sym (append-nil (values rect)))
            ∙ sym (flat_map-append values (take k rects) (rect ∷ [])) ∙ ap (flat_map values) (sym more);
        first = both ∙ ap (λ f. first_flag (f ∷ new ∷ [])) rows.first ∙ ap (λ f. first_flag (first_flag (flat_map flag_list (take k rects)) ∷ f ∷ [])) flags
            ∙ sym (first_flag-append (flat_map flag_list (take k rects)) (flag_list rect))
            ∙ ap (λ l. first_flag (flat_map flag_list (take k rects) ++ l)) (sym (append-nil (flag_list rect)))
            ∙ ap first_flag (sym (flat_map-append flag_list (take k rects) (rect ∷ []))) ∙ ap (λ l. first_flag (flat_map flag_list l)) (sym more);
      }

  pub rows_all : (items : List T) (flag : Flag) (rects : List (List (ℕ × ℕ))) (all : List (ℕ × ℕ)) (k : ℕ) → length rects ≤ k → flat_map indices rects ≡ indices all
      → Rows value flag_at number items flag (take k rects) → (map number items ≡ map value (indices all)) × (flag ≡ first_flag (map flag_at (indices all)))
  rows_all items flag rects all k past order rows =
      let end = take_all k rects past in (
        rows.made ∙ ap (flat_map (λ rect. map value (indices rect))) end ∙ sym (map-flat_map value indices rects) ∙ ap (map value) order,
        rows.first ∙ ap (λ l. first_flag (flat_map (λ rect. map flag_at (indices rect)) l)) end
            ∙ ap first_flag (sym (map-flat_map flag_at indices rects)) ∙ ap (λ l. first_flag (map flag_at l)) order,
      )

  pub rows_full : (items : List T) (all : List (ℕ × ℕ)) → map number items ≡ map value (indices all) → length items ≡ volume_of all
  rows_full items all made =
      sym (length-map items number) ∙ ap length made ∙ length-map (indices all) value ∙ volume_counts all
