-- What is known where there is no static fault.
use Rattle.std.proofs.Common.{◌≡◌, ℕ, ◌≤◌, Bool, true, false, not, nat_lt, ◌&&◌, List, Option, Some, None, Result, Ok, Err, ℤ, pos, refl, sym, ap, subst, ◌∙◌, arith}
use Rattle.std.specs.Prelude.{int_le}
use Rattle.std.specs.Option.{unwrap_or}
use Rattle.std.specs.Result.{result_ok}
use Rattle.std.specs.Int.{from_bool}
use Rattle.std.proofs.lemmas.Bool.Decides.{nat_tests}
use Rattle.std.proofs.lemmas.Int.{ints}
use Rattle.lg_elem.specs.declared.dtype.DType.{DType}
use Rattle.lg_elem.specs.declared.dtype.DType.TheVariants.{Bool as Truth, Int64}
use Rattle.lg_elem.specs.declared.kinds.Binary.{Binary}
use Rattle.lg_elem.specs.declared.kinds.Unary.{Unary}
use Rattle.lg_elem.specs.declared.kinds.Compare.{Compare}
use Rattle.lg_elem.specs.Types.{IsNumber, least, greatest}
use Rattle.lg_elem.specs.Operations.{is_allowed_binary, is_allowed_unary}
use Rattle.lg_promote.specs.Promotion.{common_type}
use Rattle.lg_promote.specs.Laws.{HoldsBoth}
use Rattle.lg_shape.specs.Shapes.{size_of, joined_shape}
use Rattle.lg_meaning.specs.declared.fault.FaultKind.{FaultKind}
use Rattle.lg_meaning.specs.declared.fault.FaultKind.TheVariants.{TypeKind, Range, Shape, Limit}
use Rattle.lg_meaning.specs.Weak as weak
use Rattle.lg_promote.specs.Literals.{is_number}
use Rattle.lg_meaning.specs.Faults.{from_part, needing, or_fault}
use Rattle.lg_meaning.specs.Memory.{ArrayKind, Right, writable}
use Rattle.lg_meaning.specs.Static.{Static, weak_value, array_value, type_beside, type_alone, fits, both_fit, common, shape_of, are_within, MAX_SIZE, made, right_of, with_right, elementwise}
use Rattle.lg_meaning.specs.Operators.{condition_fits, binary_static, compare_static, unary_static, choose_static}
use Rattle.lg_operations.specs.Lending.{IsNumberOf, SpreadsTo}
use Rattle.lg_operations.proofs.Joins.{joined_spreads, joined_spreads_three, same_spreads, no_axes_spread}

-- ---- one step

pub needing_ok : {A : Type 0} (b : Bool) (kind : FaultKind) (answer : Result A FaultKind) (x : A) → needing b kind answer ≡ Ok x → (b ≡ true) × (answer ≡ Ok x)
needing_ok true kind answer x e = (refl, e)
needing_ok false kind answer x e = cc

pub part_ok : {A B : Type 0} (r : Result A FaultKind) (f : A → Result B FaultKind) (x : B) → from_part r f ≡ Ok x → (a : A) × (r ≡ Ok a) × (f a ≡ Ok x)
part_ok (Ok a) f x e = (a, refl, e)
part_ok (Err kind) f x e = cc

pub or_fault_ok : {A : Type 0} (o : Option A) (kind : FaultKind) (x : A) → or_fault o kind ≡ Ok x → o ≡ Some x
or_fault_ok None kind x e = cc
or_fault_ok (Some a) kind x e = ap (λ r. Some (unwrap_or (result_ok r) a)) e

-- ---- results

abbrev kind_in : Static → ArrayKind → ArrayKind
kind_in (array_value k) kind = k
kind_in (weak_value w) kind = kind

pub the_kind : (k : ArrayKind) (m : ArrayKind) → ◌≡◌ {A = Result Static FaultKind} (Ok (array_value k)) (Ok (array_value m)) → k ≡ m
the_kind k m e = ap (λ r. kind_in (unwrap_or (result_ok r) (array_value k)) k) e

abbrev pub kind_with : DType → List ℕ → Right → ArrayKind
kind_with t shape right = record { dtype = t; shape = shape; right = right }

-- type, shape and size of what is made
pub record IsMadeOf (t : DType) (o : Option (List ℕ)) (u : DType) (shape : List ℕ) : Type 0 where
  pub dtype : t ≡ u
  pub joined : o ≡ Some shape
  pub small : size_of shape ≤ MAX_SIZE

small_size : (w : Bool) (n : ℕ) → (w && not (nat_lt MAX_SIZE n)) ≡ true → n ≤ MAX_SIZE
small_size w n e = grind (arith, nat_tests)

pub made_ok : (t : DType) (s : List ℕ) (right : Right) (u : DType) (shape : List ℕ) (k : Static)
    → made t s ≡ Ok k → (size_of s ≤ MAX_SIZE) × (array_value (kind_with t s writable) ≡ k)
made_ok t s right u shape k e =
    let h = needing_ok (are_within s && not (nat_lt MAX_SIZE (size_of s))) Limit (Ok (array_value (kind_with t s writable))) k e in
    (small_size (are_within s) (size_of s) h.0, ap (λ r. unwrap_or (result_ok r) k) h.1)

pub elementwise_ok : (t : DType) (o : Option (List ℕ)) (u : DType) (shape : List ℕ) → elementwise t o ≡ Ok (array_value (kind_with u shape (right_of shape))) → IsMadeOf t o u shape
elementwise_ok t None u shape e = cc
elementwise_ok t (Some s) u shape e =
    let p = part_ok (made t s) (λ k. Ok (with_right k)) (array_value (kind_with u shape (right_of shape))) e in
    let m = made_ok t s writable u shape p.0 p.1 in
    let same : kind_with t s (right_of s) ≡ kind_with u shape (right_of shape) = the_kind _ _ (ap (λ k. Ok (with_right k)) m.1 ∙ p.2) in
    let shapes : s ≡ shape = ap (λ (k : ArrayKind). k.shape) same in
    record { dtype = ap (λ (k : ArrayKind). k.dtype) same; joined = ap Some shapes; small = subst (λ l. size_of l ≤ MAX_SIZE) shapes m.0 }

-- ---- operations

pub record BinaryOk (a b : Static) (t : DType) (shape : List ℕ) : Type 0 where
  pub common_is : common a b ≡ Ok t
  pub fitting : both_fit a b ≡ true
  pub spreads_a : SpreadsTo (shape_of a) shape
  pub spreads_b : SpreadsTo (shape_of b) shape
  pub small : size_of shape ≤ MAX_SIZE

pub binary_ok : (op : Binary) (a b : Static) (t : DType) (shape : List ℕ) → Ok (array_value (kind_with t shape (right_of shape))) ≡ binary_static op a b → BinaryOk a b t shape
binary_ok op a b t shape e =
    let k = array_value (kind_with t shape (right_of shape)) in
    let p = part_ok (common a b) _ k (sym e) in
    let q = needing_ok (is_allowed_binary op p.0) TypeKind _ k p.2 in
    let r = needing_ok (both_fit a b) Range _ k q.1 in
    let m = elementwise_ok p.0 (joined_shape (shape_of a) (shape_of b)) t shape r.1 in
    let s = joined_spreads (shape_of a) (shape_of b) shape m.joined in
    record { common_is = p.1 ∙ ap Ok m.dtype; fitting = r.0; spreads_a = s.0; spreads_b = s.1; small = m.small }

pub record UnaryOk (a : Static) (t : DType) (shape : List ℕ) : Type 0 where
  pub alone : type_alone a ≡ t
  pub fitting : fits (type_alone a) a ≡ true
  pub same : shape_of a ≡ shape
  pub small : size_of shape ≤ MAX_SIZE

pub unary_ok : (op : Unary) (a : Static) (t : DType) (shape : List ℕ) → Ok (array_value (kind_with t shape (right_of shape))) ≡ unary_static op a → UnaryOk a t shape
unary_ok op a t shape e =
    let k = array_value (kind_with t shape (right_of shape)) in
    let q = needing_ok (is_allowed_unary op (type_alone a)) TypeKind _ k (sym e) in
    let r = needing_ok (fits (type_alone a) a) Range _ k q.1 in
    let m = elementwise_ok (type_alone a) (Some (shape_of a)) t shape r.1 in
    record { alone = m.dtype; fitting = r.0; same = ap (λ o. unwrap_or o (shape_of a)) m.joined; small = m.small }

pub record ChooseOk (c a b : Static) (t : DType) (shape : List ℕ) : Type 0 where
  pub common_is : common a b ≡ Ok t
  pub fitting : both_fit a b ≡ true
  pub spreads_c : SpreadsTo (shape_of c) shape
  pub spreads_a : SpreadsTo (shape_of a) shape
  pub spreads_b : SpreadsTo (shape_of b) shape
  pub small : size_of shape ≤ MAX_SIZE

both_true : (x y : Bool) → (x && y) ≡ true → y ≡ true
both_true true y e = e
both_true false y e = cc

pub choose_ok : (c a b : Static) (t : DType) (shape : List ℕ) → Ok (array_value (kind_with t shape (right_of shape))) ≡ choose_static c a b → ChooseOk c a b t shape
choose_ok c a b t shape e =
    let k = array_value (kind_with t shape (right_of shape)) in
    let p = part_ok (common a b) _ k (sym e) in
    let q = needing_ok (condition_fits c a b && both_fit a b) Range _ k p.2 in
    let r = part_ok (or_fault (joined_shape (shape_of c) (shape_of a)) Shape) _ k q.1 in
    let m = elementwise_ok p.0 (joined_shape r.0 (shape_of b)) t shape r.2 in
    let first = or_fault_ok (joined_shape (shape_of c) (shape_of a)) Shape r.0 r.1 in
    let s = joined_spreads_three (shape_of c) (shape_of a) r.0 (shape_of b) shape first m.joined in
    record {
      common_is = p.1 ∙ ap Ok m.dtype;
      fitting = both_true (condition_fits c a b) (both_fit a b) q.0;
      spreads_c = s.0;
      spreads_a = s.1;
      spreads_b = s.2;
      small = m.small;
    }

pub record CompareOk (a b : Static) (t : DType) (shape : List ℕ) : Type 0 where
  pub truths : t ≡ Truth
  pub spreads_a : SpreadsTo (shape_of a) shape
  pub spreads_b : SpreadsTo (shape_of b) shape
  pub small : size_of shape ≤ MAX_SIZE

pub compare_ok : (op : Compare) (a b : Static) (t : DType) (shape : List ℕ) → Ok (array_value (kind_with t shape (right_of shape))) ≡ compare_static op a b → CompareOk a b t shape
compare_ok op (weak_value v) (weak_value w) t shape e = cc
compare_ok op (weak_value v) (array_value k) t shape e =
    let m = elementwise_ok Truth (Some k.shape) t shape (sym e) in
    let same : k.shape ≡ shape = ap (λ o. unwrap_or o shape) m.joined in
    record { truths = sym m.dtype; spreads_a = no_axes_spread shape; spreads_b = subst (λ l. SpreadsTo l shape) (sym same) (same_spreads shape); small = m.small }
compare_ok op (array_value k) b t shape e =
    let m = elementwise_ok Truth (joined_shape k.shape (shape_of b)) t shape (sym e) in
    let s = joined_spreads k.shape (shape_of b) shape m.joined in
    record { truths = sym m.dtype; spreads_a = s.0; spreads_b = s.1; small = m.small }

-- ---- numbers that fit

pub has_number_is : (t : DType) (x : ℤ) → is_number t x ≡ true → IsNumber t x
has_number_is t x e = let h = both (int_le (least t) x) (int_le x (greatest t)) e in (omega (arith, ints, h.0), omega (arith, ints, h.1))
  where
    both : (p q : Bool) → (p && q) ≡ true → (p ≡ true) × (q ≡ true)
    both true q e = (refl, e)
    both false q e = cc

truth_number : (b : Bool) → IsNumber Truth (pos (from_bool b))
truth_number true = (omega (arith, ints), omega (arith, ints))
truth_number false = (omega (arith, ints), omega (arith, ints))

pub beside_fits : (other a : Static) (x : ℤ) → fits (type_beside other a) a ≡ true → IsNumberOf a x → IsNumber (type_beside other a) x
beside_fits other (array_value k) x fit is = is
beside_fits other (weak_value (weak.truth b)) x fit is = subst (IsNumber Truth) (sym is) (truth_number b)
beside_fits (array_value k) (weak_value (weak.integer n)) x fit is = subst (IsNumber _) (sym is) (has_number_is _ n fit)
beside_fits (weak_value w) (weak_value (weak.integer n)) x fit is = subst (IsNumber Int64) (sym is) (has_number_is Int64 n fit)

pub fits_common : (a b : Static) (t : DType) → HoldsBoth → common a b ≡ Ok t → both_fit a b ≡ true
    → ((x : ℤ) → IsNumberOf a x → IsNumber t x) × ((x : ℤ) → IsNumberOf b x → IsNumber t x)
fits_common a b t law e fit =
    let found = or_fault_ok (common_type (type_beside b a) (type_beside a b)) TypeKind t e in
    let holds = law (type_beside b a) (type_beside a b) t found in
    let second = both_true (fits (type_beside b a) a) (fits (type_beside a b) b) fit in
    let first = first_true (fits (type_beside b a) a) (fits (type_beside a b) b) fit in
    (λ x is. holds.0 x (beside_fits b a x first is), λ x is. holds.1 x (beside_fits a b x second is))
  where
    first_true : (x y : Bool) → (x && y) ≡ true → x ≡ true
    first_true true y e = refl
    first_true false y e = cc

pub fits_alone : (a : Static) (t : DType) (x : ℤ) → type_alone a ≡ t → fits (type_alone a) a ≡ true → IsNumberOf a x → IsNumber t x
fits_alone a t x same fit is = subst (λ u. IsNumber u x) same (beside_fits a a x fit is)
