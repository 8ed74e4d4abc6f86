-- Two shapes that broadcast can each be repeated to the shape to which they do.
use Rattle.std.proofs.Common.{◌≡◌, ℕ, ◌⊎◌, inl, inr, List, [], ◌∷◌, reverse, Option, Some, None, refl, sym, ap, subst, ◌∙◌, arith}
use Rattle.std.specs.Prelude.{option_map, option_and_then}
use Rattle.std.specs.Option.{unwrap_or}
use Rattle.std.proofs.lemmas.Bool.Decides.{nat_tests}
use Rattle.std.proofs.lemmas.List.{reverse-reverse}
use Rattle.lg_shape.specs.Shapes.{joined_extent, joined_axes, joined_shape}
use Rattle.lg_operations.specs.Lending.{SpreadsTo}

-- the same axis by axis from the last one, where axes may be missing
abbrev pub FitsFromLast : List ℕ → List ℕ → Type 0
FitsFromLast [] to = Unit {0}
FitsFromLast (x ∷ shape) [] = ⊥
FitsFromLast (x ∷ shape) (y ∷ to) = ((x ≡ y) ⊎ (x ≡ 1)) × FitsFromLast shape to

the_some : {A : Type 0} (x y : A) → ◌≡◌ {A = Option A} (Some x) (Some y) → x ≡ y
the_some x y e = ap (λ o. unwrap_or o x) e

extent_fits : (x y n : ℕ) → joined_extent x y ≡ Some n → ((x ≡ n) ⊎ (x ≡ 1)) × ((y ≡ n) ⊎ (y ≡ 1))
extent_fits x y n e = grind (arith, nat_tests)

pub same_fits : (shape : List ℕ) → FitsFromLast shape shape
same_fits [] = tt
same_fits (x ∷ shape) = (inl refl, same_fits shape)

axes_fit : (a b s : List ℕ) → joined_axes a b ≡ Some s → FitsFromLast a s × FitsFromLast b s
axes_fit [] b s e = (tt, subst (FitsFromLast b) (the_some b s e) (same_fits b))
axes_fit (x ∷ a) [] s e = (subst (FitsFromLast (x ∷ a)) (the_some (x ∷ a) s e) (same_fits (x ∷ a)), tt)
axes_fit (x ∷ a) (y ∷ b) s e = by (joined_extent x y) (joined_axes a b) refl refl (axes_fit a b) e
  where
    by : (m : Option ℕ) (r : Option (List ℕ)) → joined_extent x y ≡ m → joined_axes a b ≡ r → ((t : List ℕ) → joined_axes a b ≡ Some t → FitsFromLast a t × FitsFromLast b t)
        → option_and_then (λ extent. option_map (λ extents. extent ∷ extents) r) m ≡ Some s → FitsFromLast (x ∷ a) s × FitsFromLast (y ∷ b) s
    by None r p q rest e = cc
    by (Some n) None p q rest e = cc
    by (Some n) (Some t) p q rest e =
        let f = extent_fits x y n p in
        let g = rest t q in
        subst (λ l. FitsFromLast (x ∷ a) l × FitsFromLast (y ∷ b) l) (the_some (n ∷ t) s e) ((f.0, g.0), (f.1, g.1))

pub joined_fits : (a b s : List ℕ) → joined_shape a b ≡ Some s → FitsFromLast (reverse a) (reverse s) × FitsFromLast (reverse b) (reverse s)
joined_fits a b s e = by (joined_axes (reverse a) (reverse b)) refl e
  where
    by : (r : Option (List ℕ)) → joined_axes (reverse a) (reverse b) ≡ r → option_map reverse r ≡ Some s
        → FitsFromLast (reverse a) (reverse s) × FitsFromLast (reverse b) (reverse s)
    by None q e = cc
    by (Some t) q e =
        let same : t ≡ reverse s = sym (reverse-reverse t) ∙ ap reverse (the_some (reverse t) s e) in
        subst (λ l. FitsFromLast (reverse a) l × FitsFromLast (reverse b) l) same (axes_fit (reverse a) (reverse b) t q)

through : (x y z : ℕ) → (x ≡ y) ⊎ (x ≡ 1) → (y ≡ z) ⊎ (y ≡ 1) → (x ≡ z) ⊎ (x ≡ 1)
through x y z (inl e) (inl f) = inl (e ∙ f)
through x y z (inl e) (inr f) = inr (e ∙ f)
through x y z (inr e) h = inr e

pub fits_through : (a b c : List ℕ) → FitsFromLast a b → FitsFromLast b c → FitsFromLast a c
fits_through [] b c h k = tt
fits_through (x ∷ a) [] c h k = elim h [ ]
fits_through (x ∷ a) (y ∷ b) [] h k = elim k [ ]
fits_through (x ∷ a) (y ∷ b) (z ∷ c) h k = (through x y z h.0 k.0, fits_through a b c h.1 k.1)

-- ---- as the definition has it

extent_joins : (x y : ℕ) → (x ≡ y) ⊎ (x ≡ 1) → joined_extent x y ≡ Some y
extent_joins x y (inl e) = grind (arith, nat_tests)
extent_joins x y (inr e) = grind (arith, nat_tests)

fits_join : (shape to : List ℕ) → FitsFromLast shape to → joined_axes shape to ≡ Some to
fits_join [] to h = refl
fits_join (x ∷ shape) [] h = elim h [ ]
fits_join (x ∷ shape) (y ∷ to) h =
    ap (option_and_then (λ extent. option_map (λ extents. extent ∷ extents) (joined_axes shape to))) (extent_joins x y h.0)
    ∙ ap (option_map (λ extents. y ∷ extents)) (fits_join shape to h.1)

pub spreads : (shape to : List ℕ) → FitsFromLast (reverse shape) (reverse to) → SpreadsTo shape to
spreads shape to h = ap (option_map reverse) (fits_join (reverse shape) (reverse to) h) ∙ ap Some (reverse-reverse to)

pub joined_spreads : (a b s : List ℕ) → joined_shape a b ≡ Some s → SpreadsTo a s × SpreadsTo b s
joined_spreads a b s e = let h = joined_fits a b s e in (spreads a s h.0, spreads b s h.1)

-- three shapes, the third joined to what the first two join to
pub joined_spreads_three : (a b m c s : List ℕ) → joined_shape a b ≡ Some m → joined_shape m c ≡ Some s → SpreadsTo a s × SpreadsTo b s × SpreadsTo c s
joined_spreads_three a b m c s e f =
    let h = joined_fits a b m e in
    let k = joined_fits m c s f in
    (spreads a s (fits_through (reverse a) (reverse m) (reverse s) h.0 k.0), spreads b s (fits_through (reverse b) (reverse m) (reverse s) h.1 k.0), spreads c s k.1)

pub same_spreads : (shape : List ℕ) → SpreadsTo shape shape
same_spreads shape = spreads shape shape (same_fits (reverse shape))

pub no_axes_spread : (shape : List ℕ) → SpreadsTo [] shape
no_axes_spread shape = ap Some (reverse-reverse shape)
