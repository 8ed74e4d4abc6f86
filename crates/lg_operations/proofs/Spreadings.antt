-- The numbers of what was evaluated are those of the definition.
use Rattle.std.proofs.Common.{◌≡◌, ℕ, List, [], ◌∷◌, length, map, zip, get_or, slice_get, Some, pos, refl, sym, ap, subst, ◌∙◌, arith}
use Rattle.std.proofs.lemmas.Int.{ints}
use Rattle.std.specs.Prelude.{if◌then◌else◌}
use Rattle.std.specs.Int.{from_bool}
use Rattle.std.specs.Option.{IsSomeAnd}
use Rattle.lg_elem.specs.declared.dtype.DType.{DType}
use Rattle.lg_elem.specs.declared.kinds.Flag.{Flag}
use Rattle.lg_elem.specs.declared.kinds.Flag.TheVariants.{Clear, Divisor, Power}
use Rattle.lg_elem.specs.declared.kinds.Binary.{Binary}
use Rattle.lg_elem.specs.declared.kinds.Unary.{Unary}
use Rattle.lg_elem.specs.declared.kinds.Compare.{Compare}
use Rattle.lg_elem.specs.Types.{IsNumber, wrap}
use Rattle.lg_elem.specs.Operations.{is_zero, unary_of, value_of, flag_of, compare_of}
use Rattle.lg_elem.proofs.WrapLemmas.{wrap_same}
use Rattle.lg_space.specs.Rectangle.{IsIn}
use Rattle.lg_shape.specs.Shapes.{whole, places, size_of, place_of, aligned}
use Rattle.lg_tile.proofs.SectionLemmas.{map-map}
use Rattle.lg_map.specs.declared.operation.MapOp.TheVariants as ops
use Rattle.lg_map.specs.Mapping.{first_flag}
use Rattle.lg_meaning.specs.Faults.{first_fault}
use Rattle.lg_meaning.specs.Value.{Value, spread}
use Rattle.lg_meaning.specs.Operators.{flagged, binary_fault, chosen}
use Rattle.lg_operations.specs.declared.lending.Inputs.{Inputs}
use Rattle.lg_operations.specs.declared.lending.Lent.{Lent}
use Rattle.lg_operations.specs.declared.lending.Lent.TheVariants.{Number, Tile, Viewed}
use Rattle.lg_operations.specs.Lending.{HasElements, IsLentOver, IsTaken, Lends, input_at, lent_at, lent_flags, lent_values, lents_of, operand_at, operand_in, spread_at}
use Rattle.lg_operations.proofs.Indexed.{along, by_places}
use Rattle.lg_operations.proofs.Spreads.{aligned_same}

-- ---- inputs

-- an operand is read at its place
pub record Reads (inputs : Inputs) (x : Lent) (k : ℕ) : Type 0 where
  pub is : IsTaken inputs (operand_in x k)
  pub at : (index : List ℕ) → operand_at inputs (operand_in x k) index ≡ lent_at x index

pub reads : (inputs : Inputs) (rect : List (ℕ × ℕ)) (x : Lent) (k : ℕ) → slice_get (lents_of inputs) k ≡ Some x → IsLentOver rect x → Reads inputs x k
reads inputs rect (Number n) k at over = record { is = over; at = λ index. refl }
reads inputs rect (Tile tile) k at over = record { is = subst (λ o. IsSomeAnd o HasElements) (sym at) tt; at = λ index. ap (λ o. input_at o index) at }
reads inputs rect (Viewed tile chain) k at over = record { is = subst (λ o. IsSomeAnd o HasElements) (sym at) tt; at = λ index. ap (λ o. input_at o index) at }

abbrev pub inputs_of : Lent → Lent → Lent → Inputs
inputs_of x y z = record { first = x; second = y; third = z }

-- at the places of operands that there are not
abbrev pub nothing : Lent
nothing = Number (pos 0)

pub nothing_over : (rect : List (ℕ × ℕ)) → IsLentOver rect nothing
nothing_over rect = (omega (arith, ints), omega (arith, ints))

-- ---- the number that an operand has at an index

module _ (inputs : Inputs) (shape : List ℕ) (v : Value) (x : Lent) (k : ℕ) (lends : Lends v shape x) (read : Reads inputs x k) where
  pub number_is : (index : List ℕ) → IsIn (whole shape) index → operand_at inputs (operand_in x k) index ≡ spread_at v index
  number_is index inside = read.at index ∙ lends.same index inside

  pub wrapped_is : (t : DType) → ((index : List ℕ) → IsNumber t (spread_at v index)) → (index : List ℕ) → IsIn (whole shape) index
      → wrap t (operand_at inputs (operand_in x k) index) ≡ spread_at v index
  wrapped_is t fits index inside = ap (wrap t) (number_is index inside) ∙ wrap_same t (spread_at v index) (fits index)

-- ---- lists

zip_maps : {A B C : Type 0} (f : A → B) (h : A → C) (xs : List A) → zip (map f xs) (map h xs) ≡ map (λ x. (f x, h x)) xs
zip_maps f h [] = refl
zip_maps f h (x ∷ xs) = ap ((f x, h x) ∷◌) (zip_maps f h xs)

flagged_alone : (flag : Flag) (rest : List Flag) → flagged (first_flag rest) ≡ first_fault (map flagged rest) → flagged (first_flag (flag ∷ rest)) ≡ first_fault (map flagged (flag ∷ rest))
flagged_alone Clear rest e = e
flagged_alone Divisor rest e = refl
flagged_alone Power rest e = refl

flagged_first : (flags : List Flag) → flagged (first_flag flags) ≡ first_fault (map flagged flags)
flagged_first [] = refl
flagged_first (flag ∷ flags) = flagged_alone flag flags (flagged_first flags)

-- a value repeated to its own shape
pub spread_self : (v : Value) (shape : List ℕ) → v.shape ≡ shape → length v.numbers ≡ size_of shape → spread shape v ≡ v.numbers
spread_self v shape same full =
    ap (λ s. map (λ index. get_or v.numbers (place_of s (aligned s index)) (pos 0)) (places shape)) same
    ∙ along shape _ (λ index. get_or v.numbers (place_of shape index) (pos 0)) (λ index inside. ap (λ i. get_or v.numbers (place_of shape i) (pos 0)) (aligned_same shape index inside))
    ∙ by_places shape v.numbers full

-- ---- operations

module _ (inputs : Inputs) (shape : List ℕ) (t : DType) (a b : Value) (x y : Lent)
    (first : Lends a shape x) (second : Lends b shape y) (reads_x : Reads inputs x 0) (reads_y : Reads inputs y 1) where
  pub binary_same : (op : Binary) → ((index : List ℕ) → IsNumber t (spread_at a index)) → ((index : List ℕ) → IsNumber t (spread_at b index))
      → lent_values (ops.Binary op (operand_in x 0) (operand_in y 1)) t inputs (whole shape) ≡ map (λ p. value_of op t p.0 p.1) (zip (spread shape a) (spread shape b))
  binary_same op fits_a fits_b =
      along shape _ (λ index. value_of op t (spread_at a index) (spread_at b index))
      (λ index inside. ap (λ n. value_of op t n (wrap t (operand_at inputs (operand_in y 1) index))) (wrapped_is inputs shape a x 0 first reads_x t fits_a index inside)
      ∙ ap (value_of op t (spread_at a index)) (wrapped_is inputs shape b y 1 second reads_y t fits_b index inside))
      ∙ sym (ap (map (λ p. value_of op t p.0 p.1)) (zip_maps (spread_at a) (spread_at b) (places shape)) ∙ map-map (λ p. value_of op t p.0 p.1) (λ index. (spread_at a index, spread_at b index)) (places shape))

  pub binary_flags : (op : Binary) → ((index : List ℕ) → IsNumber t (spread_at b index))
      → flagged (lent_flags (ops.Binary op (operand_in x 0) (operand_in y 1)) t inputs (whole shape)) ≡ binary_fault op (spread shape b)
  binary_flags op fits_b =
      flagged_first (map (λ index. flag_of op (wrap t (operand_at inputs (operand_in y 1) index))) (places shape))
      ∙ ap (λ l. first_fault (map flagged l)) (along shape (λ index. flag_of op (wrap t (operand_at inputs (operand_in y 1) index))) (λ index. flag_of op (spread_at b index))
      (λ index inside. ap (flag_of op) (wrapped_is inputs shape b y 1 second reads_y t fits_b index inside)))
      ∙ ap first_fault (map-map flagged (λ index. flag_of op (spread_at b index)) (places shape) ∙ sym (map-map (λ n. flagged (flag_of op n)) (spread_at b) (places shape)))

  pub compare_same : (op : Compare) → lent_values (ops.Compare op (operand_in x 0) (operand_in y 1)) t inputs (whole shape)
      ≡ map (λ p. pos (from_bool (compare_of op p.0 p.1))) (zip (spread shape a) (spread shape b))
  compare_same op =
      along shape _ (λ index. pos (from_bool (compare_of op (spread_at a index) (spread_at b index))))
      (λ index inside. ap (λ n. pos (from_bool (compare_of op n (operand_at inputs (operand_in y 1) index)))) (number_is inputs shape a x 0 first reads_x index inside)
      ∙ ap (λ n. pos (from_bool (compare_of op (spread_at a index) n))) (number_is inputs shape b y 1 second reads_y index inside))
      ∙ sym (ap (map (λ p. pos (from_bool (compare_of op p.0 p.1)))) (zip_maps (spread_at a) (spread_at b) (places shape))
      ∙ map-map (λ p. pos (from_bool (compare_of op p.0 p.1))) (λ index. (spread_at a index, spread_at b index)) (places shape))

pub unary_same : (inputs : Inputs) (shape : List ℕ) (t : DType) (a : Value) (x : Lent) → Lends a shape x → Reads inputs x 0 → (op : Unary)
    → ((index : List ℕ) → IsNumber t (spread_at a index))
    → lent_values (ops.Unary op (operand_in x 0)) t inputs (whole shape) ≡ map (unary_of op t) (spread shape a)
unary_same inputs shape t a x lends read op fits =
    along shape _ (λ index. unary_of op t (spread_at a index)) (λ index inside. ap (unary_of op t) (wrapped_is inputs shape a x 0 lends read t fits index inside))
    ∙ sym (map-map (unary_of op t) (spread_at a) (places shape))

pub cast_same : (inputs : Inputs) (shape : List ℕ) (t : DType) (a : Value) (x : Lent) → Lends a shape x → Reads inputs x 0
    → lent_values (ops.Cast (operand_in x 0)) t inputs (whole shape) ≡ map (wrap t) (spread shape a)
cast_same inputs shape t a x lends read =
    along shape _ (λ index. wrap t (spread_at a index)) (λ index inside. ap (wrap t) (number_is inputs shape a x 0 lends read index inside))
    ∙ sym (map-map (wrap t) (spread_at a) (places shape))

pub choose_same : (inputs : Inputs) (shape : List ℕ) (t : DType) (c a b : Value) (w x y : Lent) → Lends c shape w → Lends a shape x → Lends b shape y
    → Reads inputs w 0 → Reads inputs x 1 → Reads inputs y 2 → ((index : List ℕ) → IsNumber t (spread_at a index)) → ((index : List ℕ) → IsNumber t (spread_at b index))
    → lent_values (ops.Select (operand_in w 0) (operand_in x 1) (operand_in y 2)) t inputs (whole shape)
    ≡ map (λ p. chosen p.0 p.1) (zip (spread shape c) (zip (spread shape a) (spread shape b)))
choose_same inputs shape t c a b w x y lends_c lends_a lends_b reads_w reads_x reads_y fits_a fits_b =
    along shape _ (λ index. chosen (spread_at c index) (spread_at a index, spread_at b index))
    (λ index inside.
    ap (λ n. if is_zero n then wrap t (operand_at inputs (operand_in y 2) index) else wrap t (operand_at inputs (operand_in x 1) index)) (number_is inputs shape c w 0 lends_c reads_w index inside)
    ∙ ap (λ n. if is_zero (spread_at c index) then n else wrap t (operand_at inputs (operand_in x 1) index)) (wrapped_is inputs shape b y 2 lends_b reads_y t fits_b index inside)
    ∙ ap (λ n. if is_zero (spread_at c index) then spread_at b index else n) (wrapped_is inputs shape a x 1 lends_a reads_x t fits_a index inside))
    ∙ sym (ap (λ l. map (λ p. chosen p.0 p.1) (zip (spread shape c) l)) (zip_maps (spread_at a) (spread_at b) (places shape))
    ∙ ap (map (λ p. chosen p.0 p.1)) (zip_maps (spread_at c) (λ index. (spread_at a index, spread_at b index)) (places shape))
    ∙ map-map (λ p. chosen p.0 p.1) (λ index. (spread_at c index, (spread_at a index, spread_at b index))) (places shape))
