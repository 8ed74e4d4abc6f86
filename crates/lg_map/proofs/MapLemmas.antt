-- From places to indices.
use Rattle.std.proofs.Common.{◌≡◌, ℕ, ◌<◌, List, [], ◌∷◌, length, map, replicate, zero, suc, Bool, ℤ, pos, negsuc, refl, sym, ap, ◌∙◌, arith}
use Rattle.std.proofs.lemmas.Int.{ints}
use Rattle.std.proofs.lemmas.List.{length-map, get_or-map}
use Rattle.std.proofs.lemmas.List.FromFn.{fill_by_all}
use Rattle.lg_space.specs.Rectangle.{indices, volume_of}
use Rattle.lg_space.proofs.Places.{volume_counts}
use Rattle.std.specs.Prelude.{if◌then◌else◌}
use Rattle.std.specs.Int.{from_bool}
use Rattle.lg_elem.specs.declared.dtype.DType.TheVariants.{Bool as Truth}
use Rattle.lg_elem.specs.declared.kinds.Compare.{Compare}
use Rattle.lg_elem.specs.Operations.{is_zero, compare_of}
use Rattle.lg_elem.specs.Types.{wrap}
use Rattle.lg_tile.proofs.NumberLemmas.{map_filled}
use Rattle.lg_tile.proofs.SectionLemmas.{map_along}
use Rattle.lg_tile.specs.declared.tile.Tile.{Tile}
use Rattle.lg_map.specs.Columns.{listed, index_in, IsTruths}

-- what is known at the index of each place is known of the list of all indices
pub by_indices : {A : Type 0} (rect : List (ℕ × ℕ)) (h : ℕ → A) (f : List ℕ → A) → ((place : ℕ) → place < volume_of rect → h place ≡ f (index_in rect place))
    → listed h (volume_of rect) ≡ map f (indices rect)
by_indices rect h f same =
    sym (fill_by_all h (map f (indices rect)) (volume_of rect) (f []) (length-map (indices rect) f ∙ volume_counts rect) (λ place below.
    get_or-map f (indices rect) place [] (f []) (omega (arith, below, volume_counts rect)) ∙ sym (same place below)))

-- the same number at each index
pub same_at_each : {T : Type 0} (number : T → ℤ) (rect : List (ℕ × ℕ)) (items : List T) (x : T) (y : ℤ) → items ≡ replicate (volume_of rect) x → number x ≡ y
    → map number items ≡ map (λ index. y) (indices rect)
same_at_each number rect items x y filled is =
    map_filled number (volume_of rect) items x y filled is ∙ ap (λ n. replicate n y) (sym (volume_counts rect)) ∙ sym (map_constant (indices rect))
  where
    map_constant : {A : Type 0} (xs : List A) → map (λ x. y) xs ≡ replicate (length xs) y
    map_constant [] = refl
    map_constant (x ∷ xs) = ap (y ∷◌) (map_constant xs)

-- what is not 0 as a truth value is not 0
is_zero-truth : (z : ℤ) → is_zero (wrap Truth z) ≡ is_zero z
is_zero-truth (pos zero) = refl
is_zero-truth (pos (suc n)) = grind (arith, ints)
is_zero-truth (negsuc n) = refl

pub same_choice : (a b : ℤ) → wrap Truth a ≡ wrap Truth b → is_zero a ≡ is_zero b
same_choice a b same = sym (is_zero-truth a) ∙ ap is_zero same ∙ is_zero-truth b

pub chosen_same : {a b : Bool} {x y v w : ℤ} → a ≡ b → x ≡ y → v ≡ w → (if a then x else v) ≡ (if b then y else w)
chosen_same {b = b} {x = x} {y = y} {v = v} choice first second =
    ap (λ c. if c then x else v) choice ∙ ap (λ n. if b then n else v) first ∙ ap (λ n. if b then y else n) second

-- ---- comparisons

-- where the comparison that says the same is right with its operands exchanged
pub mirrored_truths : (tile : Tile Bool) (rect : List (ℕ × ℕ)) (op other : Compare) (f g : List ℕ → ℤ) → ((x y : ℤ) → compare_of other y x ≡ compare_of op x y)
    → IsTruths tile rect other g f → IsTruths tile rect op f g
mirrored_truths tile rect op other f g same is =
    (is.0, is.1 ∙ map_along _ _ (indices rect) (λ k index there. ap (λ b. pos (from_bool b)) (same (f index) (g index))))
