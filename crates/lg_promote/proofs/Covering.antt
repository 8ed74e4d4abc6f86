-- That the common type is the least: there are nine types, so the check goes over all.
use Rattle.std.proofs.Common.{◌≡◌, Bool, true, ◌&&◌, if◌then◌else◌, refl, arith, Option, Some, None}
use Rattle.std.proofs.lemmas.Int.{ints}
use Rattle.std.proofs.lemmas.Bool.{and_parts, and_from}
use Rattle.std.specs.Prelude.{int_le}
use Rattle.lg_elem.specs.declared.dtype.DType.{DType}
use Rattle.lg_elem.specs.declared.dtype.DType.TheVariants.{Bool as TruthValues, Int8, Int16, Int32, Int64, UInt8, UInt16, UInt32, UInt64}
use Rattle.lg_elem.specs.Types.{least, greatest, IsNumber}
use Rattle.lg_promote.specs.Promotion.{common_type}
use Rattle.lg_promote.specs.Laws.{HoldsAll, IsLeast}

-- ---- a test of all nine types

unfoldable each : (DType → Bool) → Bool
each f = f TruthValues && (f Int8 && (f Int16 && (f Int32 && (f Int64 && (f UInt8 && (f UInt16 && (f UInt32 && f UInt64)))))))

each_one : (f : DType → Bool) → each f ≡ true → (t : DType) → f t ≡ true
unfolding each
each_one f e TruthValues = grind arith
each_one f e Int8 = grind arith
each_one f e Int16 = grind arith
each_one f e Int32 = grind arith
each_one f e Int64 = grind arith
each_one f e UInt8 = grind arith
each_one f e UInt16 = grind arith
each_one f e UInt32 = grind arith
each_one f e UInt64 = grind arith

-- ---- a type has all numbers of another where it has the least and the greatest

unfoldable covers : DType → DType → Bool
covers u t = int_le (least u) (least t) && int_le (greatest t) (greatest u)

all_rise : each (λ t. int_le (least t) (greatest t)) ≡ true
unfolding each
all_rise = refl

fills : (t : DType) → IsNumber t (least t) × IsNumber t (greatest t)
fills t =
    let rises = each_one (λ t. int_le (least t) (greatest t)) all_rise t in
    ((grind (arith, ints), grind (arith, ints)), (grind (arith, ints), grind (arith, ints)))

covers_from : (u t : DType) → HoldsAll u t → covers u t ≡ true
unfolding covers
covers_from u t h =
    let low = h (least t) (fills t).0 in
    let high = h (greatest t) (fills t).1 in
    and_from (int_le (least u) (least t)) (int_le (greatest t) (greatest u)) (grind (arith, ints)) (grind (arith, ints))

holds_from : (u t : DType) → covers u t ≡ true → HoldsAll u t
unfolding covers
holds_from u t e x f =
    let ends = and_parts (int_le (least u) (least t)) (int_le (greatest t) (greatest u)) e in
    (grind (arith, ints), grind (arith, ints))

-- ---- the common type is covered by each type that covers both

unfoldable covers_common : DType → Option DType → Bool
covers_common u None = true
covers_common u (Some t) = covers u t

unfoldable spans : DType → DType → DType → Bool
spans u a b = if covers u a && covers u b then covers_common u (common_type a b) else true

all_span : each (λ a. each (λ b. each (λ u. spans u a b))) ≡ true
unfolding each spans covers_common covers
all_span = refl

spans_all : (a b u : DType) → spans u a b ≡ true
spans_all a b u = each_one (λ u. spans u a b) (each_one (λ b. each (λ u. spans u a b)) (each_one (λ a. each (λ b. each (λ u. spans u a b))) all_span a) b) u

pub common_least : IsLeast
unfolding spans covers_common
common_least a b t u e h k =
    let both = and_from (covers u a) (covers u b) (covers_from u a h) (covers_from u b k) in
    let spanned : (if covers u a && covers u b then covers_common u (common_type a b) else true) ≡ true = spans_all a b u in
    holds_from u t (rw (both, e) at spanned)
