-- Products and bits of elements, which the code computes at 128 bits.
use Rattle.std.proofs.Common.{◌≡◌, ℕ, suc, ◌+◌, ◌-◌, ◌%◌, ◌^◌, ◌<◌, ◌≤◌, refl, sym, ap, subst, ◌∙◌, arith, ℤ, pos, negsuc, ◌*ℤ◌}
use Rattle.std.proofs.lemmas.Int.{ints, wrapping_mul_is, fits_signed_mul, fits_signed_from_abs, int_rem_euclid_is}
use Rattle.std.proofs.lemmas.Nat.{pow_pos, pow-add, and_mod, or_mod, xor_mod, and_le_l, or_lt, xor_lt}
use Rattle.std.specs.Int.{w128, int_wrapping_mul}
use Rattle.std.specs.Prelude.{unsigned_abs, FitsSigned, bit_and, bit_or, bit_xor}
use mir.Val.{to_z, of_z}
use Rattle.lg_elem.specs.declared.dtype.DType.{DType}
use Rattle.lg_elem.specs.declared.dtype.DType.TheVariants.{Bool as Truth, Int8, Int16, Int32, Int64, UInt8, UInt16, UInt32, UInt64}
use Rattle.lg_elem.specs.Types.{IsNumber, wrap, bits}
use Rattle.lg_elem.specs.Operations.{bits_in}
use Rattle.lg_elem.proofs.WrapLemmas.{rem_congruent}
use Rattle.lg_elem.proofs.Congruence.{bits_most, congruent_bits, same_wrap, cast_congruent, wrapped_first}

-- ---- where the numbers of all types lie

pub abs_most : (t : DType) (x : ℤ) → IsNumber t x → unsigned_abs x < 2 ^ 64
abs_most Truth x f = grind (arith, ints)
abs_most Int8 x f = grind (arith, ints)
abs_most Int16 x f = grind (arith, ints)
abs_most Int32 x f = grind (arith, ints)
abs_most Int64 x f = grind (arith, ints)
abs_most UInt8 x f = grind (arith, ints)
abs_most UInt16 x f = grind (arith, ints)
abs_most UInt32 x f = grind (arith, ints)
abs_most UInt64 x f = grind (arith, ints)

pub number_fits : (t : DType) (x : ℤ) → IsNumber t x → FitsSigned w128 x
number_fits t x f = fits_signed_from_abs w128 x (omega (arith, abs_most t x f))

abs_truth : (x : ℤ) → IsNumber Truth x → unsigned_abs x ≤ 1
abs_truth x f = grind (arith, ints)

-- ---- products

pub product_wrapped : (t : DType) (x y : ℤ) → IsNumber t x → IsNumber t y → wrap t (int_wrapping_mul w128 x y) ≡ wrap t (x *ℤ y)
product_wrapped t x y f g =
    ap (wrap t) (wrapping_mul_is w128 x y (number_fits t x f) (number_fits t y g)) ∙ wrapped_first t w128 (x *ℤ y) (omega (arith, bits_most t)) truth
  where
    truth : t ≡ Truth → FitsSigned w128 (x *ℤ y)
    truth e = fits_signed_mul w128 x y 1 1 (abs_truth x (subst (λ u. IsNumber u x) e f)) (abs_truth y (subst (λ u. IsNumber u y) e g)) (omega arith)

-- ---- bits

-- the low bits of x in two's complement are the same at 128 bits
bits_kept : (t : DType) (x : ℤ) → IsNumber t x → of_z w128 x % 2 ^ bits t ≡ bits_in t x
bits_kept t (pos n) f = refl
bits_kept t (negsuc n) f =
    let split : (128 - bits t) + bits t ≡ 128 = omega (arith, bits_most t) in
    let whole = sym (pow-add 2 (128 - bits t) (bits t)) ∙ ap (λ k. 2 ^ k) split in
    let below = abs_most t (negsuc n) f in
    sym (ap unsigned_abs (int_rem_euclid_is (negsuc n) (pos (2 ^ bits t)) (2 ^ bits t) (2 ^ (128 - bits t)) (2 ^ 128 - suc n) (pow_pos (bits t)) refl (omega (arith, ints, whole, below))))

bits_below : (t : DType) (x : ℤ) → IsNumber t x → of_z w128 x < 2 ^ 128
bits_below t (pos n) f = omega (arith, abs_most t (pos n) f)
bits_below t (negsuc n) f = omega arith

truth_bits : (x : ℤ) → IsNumber Truth x → of_z w128 x ≡ bits_in Truth x
truth_bits (pos n) f = omega (arith, ints)
truth_bits (negsuc n) f = absurd (omega (arith, ints))

truth_cast : (n : ℕ) → wrap Truth (to_z w128 n) ≡ wrap Truth (pos n)
truth_cast n = grind (arith, ints)

-- an operation that keeps low bits apart from the others gives the same at 128 bits, at first
-- wrapped
bitwise : (f : ℕ → ℕ → ℕ) → ((a b k : ℕ) → f a b % 2 ^ k ≡ f (a % 2 ^ k) (b % 2 ^ k)) → (t : DType) (x y : ℤ) → IsNumber t x → IsNumber t y → f (of_z w128 x) (of_z w128 y) < 2 ^ 128 → wrap t (to_z w128 (f (of_z w128 x) (of_z w128 y))) ≡ wrap t (pos (f (bits_in t x) (bits_in t y)))
bitwise f low Truth x y i j h =
    truth_cast (f (of_z w128 x) (of_z w128 y)) ∙ (ap (λ a. wrap Truth (pos (f a (of_z w128 y)))) (truth_bits x i) ∙ ap (λ b. wrap Truth (pos (f (bits_in Truth x) b))) (truth_bits y j))
bitwise f low t x y i j h =
    let n = f (of_z w128 x) (of_z w128 y) in
    let m = 2 ^ bits t in
    let cast = same_wrap t (pos n) (to_z w128 n) (λ e. cc) (congruent_bits t 128 (pos n) (to_z w128 n) (omega (arith, bits_most t)) (cast_congruent w128 n h)) in
    let rest = same_wrap t (pos n) (pos (n % m)) (λ e. cc) (rem_congruent m (pos n) (pow_pos (bits t))) in
    let kept = (low (of_z w128 x) (of_z w128 y) (bits t) ∙ ap (λ a. f a (of_z w128 y % m)) (bits_kept t x i)) ∙ ap (f (bits_in t x)) (bits_kept t y j) in
    (cast ∙ sym rest) ∙ ap (λ k. wrap t (pos k)) kept

pub and_wrapped : (t : DType) (x y : ℤ) → IsNumber t x → IsNumber t y → wrap t (to_z w128 (bit_and (of_z w128 x) (of_z w128 y))) ≡ wrap t (pos (bit_and (bits_in t x) (bits_in t y)))
and_wrapped t x y i j = bitwise bit_and and_mod t x y i j (omega (arith, and_le_l (of_z w128 x) (of_z w128 y), bits_below t x i))

pub or_wrapped : (t : DType) (x y : ℤ) → IsNumber t x → IsNumber t y → wrap t (to_z w128 (bit_or (of_z w128 x) (of_z w128 y))) ≡ wrap t (pos (bit_or (bits_in t x) (bits_in t y)))
or_wrapped t x y i j = bitwise bit_or or_mod t x y i j (or_lt 128 (of_z w128 x) (of_z w128 y) (bits_below t x i) (bits_below t y j))

pub xor_wrapped : (t : DType) (x y : ℤ) → IsNumber t x → IsNumber t y → wrap t (to_z w128 (bit_xor (of_z w128 x) (of_z w128 y))) ≡ wrap t (pos (bit_xor (bits_in t x) (bits_in t y)))
xor_wrapped t x y i j = bitwise bit_xor xor_mod t x y i j (xor_lt 128 (of_z w128 x) (of_z w128 y) (bits_below t x i) (bits_below t y j))
