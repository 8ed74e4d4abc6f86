-- Which shapes are repeated to exactly another one.
use Rattle.std.proofs.Common.{◌≡◌, ℕ, ◌==◌, eq-eqb, Bool, true, false, ◌||◌, ◌&&◌, List, [], ◌∷◌, reverse, Option, None, Some, option_map, refl, sym, ap, ◌∙◌, bytes_eq}
use Rattle.std.specs.Prelude.{if◌then◌else◌, option_and_then}
use Rattle.std.specs.Cmp.Lexicographic.{bytes_decides}
use Rattle.std.proofs.lemmas.List.{reverse-reverse}
use Rattle.lg_shape.specs.Shapes.{joined_extent, joined_axes, joined_shape}
use Rattle.lg_meaning.specs.Views.{is_exactly, broadcasts_to, repeated}
use Rattle.lg_operations.specs.Repeating.{repeats_axes}

-- two tests that hold together are the same
same_test : (p q : Bool) → (p ≡ true → q ≡ true) → (q ≡ true → p ≡ true) → p ≡ q
same_test true q h k = sym (h refl)
same_test false true h k = k refl
same_test false false h k = refl

reversed_eq : (s to : List ℕ) → bytes_eq (reverse s) to ≡ bytes_eq s (reverse to)
reversed_eq s to = same_test (bytes_eq (reverse s) to) (bytes_eq s (reverse to))
    (λ e. (bytes_decides s (reverse to)).1 (sym (reverse-reverse s) ∙ ap reverse ((bytes_decides (reverse s) to).0 e)))
    (λ e. (bytes_decides (reverse s) to).1 (ap reverse ((bytes_decides s (reverse to)).0 e) ∙ reverse-reverse to))

reversed_exactly : (o : Option (List ℕ)) (to : List ℕ) → is_exactly (option_map reverse o) to ≡ is_exactly o (reverse to)
reversed_exactly None to = refl
reversed_exactly (Some s) to = reversed_eq s to

axis_exactly : (x y : ℕ) (r : Option (List ℕ)) (b : List ℕ)
    → is_exactly (option_and_then (λ extent. option_map (λ extents. extent ∷ extents) r) (joined_extent x y)) (y ∷ b) ≡ ((x == 1 || x == y) && is_exactly r b)
axis_exactly x y r b = by r (x == y) (x == 1) (y == 1) refl
  where
    by : (r : Option (List ℕ)) (same one repeated : Bool) → (x == y) ≡ same
        → is_exactly (option_and_then (λ extent. option_map (λ extents. extent ∷ extents) r) (if same then Some x else (if one then Some y else (if repeated then Some x else None)))) (y ∷ b)
        ≡ ((one || same) && is_exactly r b)
    by None true true repeated e = refl
    by None true false repeated e = refl
    by None false true repeated e = refl
    by None false false true e = refl
    by None false false false e = refl
    by (Some s) true true repeated e = ap (λ t. t && bytes_eq s b) e
    by (Some s) true false repeated e = ap (λ t. t && bytes_eq s b) e
    by (Some s) false true repeated e = ap (λ t. t && bytes_eq s b) (eq-eqb y y refl)
    by (Some s) false false true e = ap (λ t. t && bytes_eq s b) e
    by (Some s) false false false e = refl

exactly_axes : (a b : List ℕ) → is_exactly (joined_axes a b) b ≡ repeats_axes a b
exactly_axes [] b = (bytes_decides b b).1 refl
exactly_axes (x ∷ a) [] = refl
exactly_axes (x ∷ a) (y ∷ b) = axis_exactly x y (joined_axes a b) b ∙ ap ((x == 1 || x == y) &&◌) (exactly_axes a b)

pub repeats_shape : (shape to : List ℕ) → repeats_axes (reverse shape) (reverse to) ≡ broadcasts_to shape to
repeats_shape shape to = sym (reversed_exactly (joined_axes (reverse shape) (reverse to)) to ∙ exactly_axes (reverse shape) (reverse to))

-- where it is exactly this shape, the two are joined to it
pub joined_exactly : (shape to : List ℕ) → broadcasts_to shape to ≡ true → joined_shape shape to ≡ Some to
joined_exactly shape to = by (joined_shape shape to)
  where
    by : (o : Option (List ℕ)) → is_exactly o to ≡ true → o ≡ Some to
    by None e = cc
    by (Some s) e = ap Some ((bytes_decides s to).0 e)
