-- The first flag of a list.
use Rattle.std.proofs.Common.{◌≡◌, ◌≢◌, List, [], ◌∷◌, map, Bool, true, false, ◌||◌, ℤ, refl}
use Rattle.std.specs.Prelude.{if◌then◌else◌}
use Rattle.std.specs.List.{list_any}
use Rattle.lg_elem.specs.declared.kinds.Flag.{Flag}
use Rattle.lg_elem.specs.declared.kinds.Flag.TheVariants.{Clear, Divisor, Power}
use Rattle.lg_elem.specs.declared.kinds.Binary.{Binary}
use Rattle.lg_elem.specs.declared.kinds.Binary.TheVariants.{FloorDiv, Rem, Pow}
use Rattle.lg_elem.specs.Operations.{flag_of, divisor_flag_of, power_flag_of, is_zero, is_negative}
use Rattle.lg_map.specs.Mapping.{first_flag}

-- where all are clear
pub no_flags : {A : Type 0} (xs : List A) → first_flag (map (λ x. Clear) xs) ≡ Clear
no_flags [] = refl
no_flags (x ∷ xs) = no_flags xs

-- where each is clear or this one
one_flag : (test : ℤ → Bool) (flag : Flag) → ((rest : List Flag) → first_flag (flag ∷ rest) ≡ flag) → (xs : List ℤ)
    → first_flag (map (λ x. if test x then flag else Clear) xs) ≡ (if list_any test xs then flag else Clear)
one_flag test flag stops [] = refl
one_flag test flag stops (x ∷ xs) = by_test (test x) (one_flag test flag stops xs)
  where
    by_test : (b : Bool) → first_flag (map (λ x. if test x then flag else Clear) xs) ≡ (if list_any test xs then flag else Clear)
        → first_flag ((if b then flag else Clear) ∷ map (λ x. if test x then flag else Clear) xs) ≡ (if (b || list_any test xs) then flag else Clear)
    by_test true rest = stops (map (λ x. if test x then flag else Clear) xs)
    by_test false rest = rest

pub divisor_flags : (xs : List ℤ) → first_flag (map divisor_flag_of xs) ≡ (if list_any is_zero xs then Divisor else Clear)
divisor_flags xs = one_flag is_zero Divisor (λ rest. refl) xs

pub power_flags : (xs : List ℤ) → first_flag (map power_flag_of xs) ≡ (if list_any is_negative xs then Power else Clear)
power_flags xs = one_flag is_negative Power (λ rest. refl) xs

-- any other operation has none
pub other_flags : (op : Binary) (xs : List ℤ) → op ≢ FloorDiv → op ≢ Rem → op ≢ Pow → first_flag (map (flag_of op) xs) ≡ Clear
other_flags FloorDiv xs not_quotient not_rest not_power = absurd (not_quotient refl)
other_flags Rem xs not_quotient not_rest not_power = absurd (not_rest refl)
other_flags Pow xs not_quotient not_rest not_power = absurd (not_power refl)
other_flags op xs not_quotient not_rest not_power = no_flags xs
