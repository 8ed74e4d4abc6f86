-- What a quotient rounded down leaves, as the code computes it at 128 bits.
use Rattle.std.proofs.Common.{◌≡◌, zero, suc, ◌^◌, ◌<◌, refl, sym, ap, ◌∙◌, arith, ℤ, pos, negsuc, ◌-ℤ◌, ◌*ℤ◌, ◌<ℤ◌, ◌≤ℤ◌, subst}
use Rattle.std.proofs.lemmas.Int.{ints, to_z-of_z, fits_signed_from_abs}
use Rattle.std.specs.Int.{w128}
use Rattle.std.specs.Prelude.{unsigned_abs, FitsSigned}
use mir.Val.{to_z, of_z}
use Rattle.lg_elem.specs.declared.dtype.DType.{DType}
use Rattle.lg_elem.specs.Types.{IsNumber, wrap}
use Rattle.lg_elem.specs.Operations.{floor_div, value_of}
use Rattle.lg_elem.specs.declared.kinds.Binary.TheVariants.{Rem}
use Rattle.lg_elem.proofs.Floors.{rests_above}
use Rattle.lg_elem.proofs.Bitwise.{abs_most, number_fits}

-- x is divided by d above 0, which gives q; as the code reads them they are left, right and whole
pub record Parts (t : DType) (x d q left right whole : ℤ) : Type 0 where
  pub above : pos 0 <ℤ d
  pub quotient : q ≡ floor_div x d
  pub left_fits : IsNumber t left
  pub left_is : left ≡ x
  pub right_fits : IsNumber t right
  pub right_is : right ≡ d
  pub whole_fits : IsNumber t whole
  pub whole_is : whole ≡ q

abbrev pub wide : ℤ → ℤ
wide x = to_z w128 (of_z w128 x)

module _ (t : DType) (x d q left right whole : ℤ) (parts : Parts t x d q left right whole) where
  read_left : wide left ≡ x
  read_left = to_z-of_z w128 left (number_fits t left parts.left_fits) ∙ parts.left_is

  read_right : wide right ≡ d
  read_right = to_z-of_z w128 right (number_fits t right parts.right_fits) ∙ parts.right_is

  read_whole : wide whole ≡ floor_div x d
  read_whole = to_z-of_z w128 whole (number_fits t whole parts.whole_fits) ∙ parts.whole_is ∙ parts.quotient

  product : wide right *ℤ wide whole ≡ d *ℤ floor_div x d
  product = ap (λ y. y *ℤ wide whole) read_right ∙ ap (λ y. d *ℤ y) read_whole

  rest : (pos 0 ≤ℤ (x -ℤ (d *ℤ floor_div x d))) × ((x -ℤ (d *ℤ floor_div x d)) <ℤ d)
  rest = rests_above x d parts.above

  small : (unsigned_abs x < 2 ^ 64) × (unsigned_abs d < 2 ^ 64)
  small = (subst (λ y. unsigned_abs y < 2 ^ 64) parts.left_is (abs_most t left parts.left_fits), subst (λ y. unsigned_abs y < 2 ^ 64) parts.right_is (abs_most t right parts.right_fits))

  product_small : FitsSigned w128 (d *ℤ floor_div x d)
  product_small = fits_signed_from_abs w128 (d *ℤ floor_div x d) (omega (arith, ints, rest, small))

  pub product_fits : FitsSigned w128 (wide right *ℤ wide whole)
  product_fits = subst (FitsSigned w128) (sym product) product_small

  difference : wide left -ℤ wide (wide right *ℤ wide whole) ≡ x -ℤ (d *ℤ floor_div x d)
  difference =
      ap (λ y. y -ℤ wide (wide right *ℤ wide whole)) read_left ∙ ap (λ y. x -ℤ wide y) product
      ∙ ap (λ y. x -ℤ y) (to_z-of_z w128 (d *ℤ floor_div x d) product_small)

  rest_small : FitsSigned w128 (x -ℤ (d *ℤ floor_div x d))
  rest_small = fits_signed_from_abs w128 (x -ℤ (d *ℤ floor_div x d)) (omega (arith, ints, rest, small))

  pub difference_fits : FitsSigned w128 (wide left -ℤ wide (wide right *ℤ wide whole))
  difference_fits = subst (FitsSigned w128) (sym difference) rest_small

  pub rest_is : wrap t (wide (wide left -ℤ wide (wide right *ℤ wide whole))) ≡ value_of Rem t x d
  rest_is =
      ap (λ y. wrap t (wide y)) difference ∙ ap (wrap t) (to_z-of_z w128 (x -ℤ (d *ℤ floor_div x d)) rest_small) ∙ by d parts.above
    where
      by : (d : ℤ) → pos 0 <ℤ d → wrap t (x -ℤ (d *ℤ floor_div x d)) ≡ value_of Rem t x d
      by (pos zero) h = absurd (omega (arith, ints))
      by (pos (suc n)) h = refl
      by (negsuc n) h = refl
