-- An operation on the parts of its inputs over a rectangle is the operation on what is lent.
use Rattle.std.proofs.Common.{◌≡◌, ℕ, zero, suc, List, [], ◌∷◌, length, pos, refl, ap, ◌∙◌}
use Rattle.std.specs.Prelude.{if◌then◌else◌}
use Rattle.std.specs.Int.{from_bool}
use Rattle.lg_elem.specs.declared.dtype.DType.{DType}
use Rattle.lg_elem.specs.declared.kinds.Flag.{Flag}
use Rattle.lg_elem.specs.Types.{wrap}
use Rattle.lg_elem.specs.Operations.{is_zero, unary_of, value_of, flag_of, compare_of}
use Rattle.lg_space.specs.Rectangle.{IsIn, indices}
use Rattle.lg_space.proofs.Places.{stands_once}
use Rattle.lg_tile.specs.declared.any_tile.AnyTile.{AnyTile}
use Rattle.lg_tile.specs.Sections.{Covers}
use Rattle.lg_tile.proofs.SectionLemmas.{map_along}
use Rattle.lg_map.specs.declared.operation.Operand.{Operand}
use Rattle.lg_map.specs.declared.operation.Operand.TheVariants.{Input, Constant}
use Rattle.lg_map.specs.declared.operation.MapOp.{MapOp}
use Rattle.lg_map.specs.declared.operation.MapOp.TheVariants as ops
use Rattle.lg_map.specs.Mapping.{IsMap, IsOperand, Maps, first_flag, map_value, map_flag}
use Rattle.lg_map.specs.Mapping.{operand_at as read_at}
use Rattle.lg_operations.specs.declared.lending.Inputs.{Inputs}
use Rattle.lg_operations.specs.declared.lending.Lent.{Lent}
use Rattle.lg_operations.specs.declared.lending.Lent.TheVariants.{Number, Tile, Viewed}
use Rattle.lg_operations.specs.Lending.{AreLentOver, Evaluates, HasElements, IsLentOver, IsTaken, Takes, lent_at, lent_value, lent_flag, operand_at}
use Rattle.lg_operations.specs.Pieces.{IsPartOf, Shows}

-- ---- over a part of a rectangle

lent_narrower : (lent : Lent) (all rect : List (ℕ × ℕ)) → Covers all rect → IsLentOver all lent → IsLentOver rect lent
lent_narrower (Number x) all rect within h = h
lent_narrower (Tile tile) all rect within h = λ index inside. h index (within index inside)
lent_narrower (Viewed tile chain) all rect within h = (h.0, λ index inside. h.1 index (within index inside))

pub lents_narrower : (inputs : Inputs) (all rect : List (ℕ × ℕ)) → Covers all rect → AreLentOver all inputs → AreLentOver rect inputs
lents_narrower inputs all rect within h = record {
  first = lent_narrower inputs.first all rect within h.first;
  second = lent_narrower inputs.second all rect within h.second;
  third = lent_narrower inputs.third all rect within h.third;
}

pub takes_narrower : (op : MapOp) (inputs : Inputs) (all rect : List (ℕ × ℕ)) (t : DType) → Covers all rect → length rect ≡ length all → Takes op inputs all t → Takes op inputs rect t
takes_narrower (ops.Unary op x) inputs all rect t within axes h = h
takes_narrower (ops.Binary op x y) inputs all rect t within axes h = h
takes_narrower (ops.Compare op x y) inputs all rect t within axes h = h
takes_narrower (ops.Select c x y) inputs all rect t within axes h = h
takes_narrower (ops.Cast x) inputs all rect t within axes h = h
takes_narrower (ops.Fill x) inputs all rect t within axes h = h
takes_narrower (ops.Count x) inputs all rect t within axes h = (h.0, axes ∙ h.1)
takes_narrower (ops.List shape list) inputs all rect t within axes h = (h.0, h.1, (λ index inside. h.2 index (within index inside)), h.3)

-- ---- parts

shown : (rect : List (ℕ × ℕ)) (lent : Lent) (tile : AnyTile) → HasElements lent → IsPartOf rect lent tile → Shows rect (lent_at lent) tile
shown rect (Number x) tile h part = absurd h
shown rect (Tile t) tile h part = part
shown rect (Viewed t chain) tile h part = part

module _ (rect : List (ℕ × ℕ)) (inputs : Inputs) (a b c : AnyTile) (first : IsPartOf rect inputs.first a) (second : IsPartOf rect inputs.second b) (third : IsPartOf rect inputs.third c) where
  operand_read : (x : Operand) → IsTaken inputs x → IsOperand (a ∷ b ∷ c ∷ []) rect x
  operand_read (Constant x) h = h
  operand_read (Input zero) h = (shown rect inputs.first a h first).covers
  operand_read (Input (suc zero)) h = (shown rect inputs.second b h second).covers
  operand_read (Input (suc (suc zero))) h = (shown rect inputs.third c h third).covers
  operand_read (Input (suc (suc (suc k)))) h = absurd h

  operand_is : (x : Operand) (index : List ℕ) → IsTaken inputs x → IsIn rect index → read_at (a ∷ b ∷ c ∷ []) x index ≡ operand_at inputs x index
  operand_is (Constant x) index h inside = refl
  operand_is (Input zero) index h inside = (shown rect inputs.first a h first).same index inside
  operand_is (Input (suc zero)) index h inside = (shown rect inputs.second b h second).same index inside
  operand_is (Input (suc (suc zero))) index h inside = (shown rect inputs.third c h third).same index inside
  operand_is (Input (suc (suc (suc k)))) index h inside = absurd h

  pub takes_map : (op : MapOp) (t : DType) → Takes op inputs rect t → IsMap op (a ∷ b ∷ c ∷ []) rect t
  takes_map (ops.Unary op x) t h = operand_read x h
  takes_map (ops.Binary op x y) t h = (operand_read x h.0, operand_read y h.1)
  takes_map (ops.Compare op x y) t h = (h.0, operand_read x h.1, operand_read y h.2)
  takes_map (ops.Select choice x y) t h = (operand_read choice h.0, operand_read x h.1, operand_read y h.2)
  takes_map (ops.Cast x) t h = operand_read x h
  takes_map (ops.Fill x) t h = h
  takes_map (ops.Count x) t h = h
  takes_map (ops.List shape list) t h = h

  value_is : (op : MapOp) (t : DType) → Takes op inputs rect t → (index : List ℕ) → IsIn rect index → map_value op t (a ∷ b ∷ c ∷ []) index ≡ lent_value op t inputs index
  value_is (ops.Unary op x) t h index inside = ap (λ n. unary_of op t (wrap t n)) (operand_is x index h inside)
  value_is (ops.Binary op x y) t h index inside =
      let first = operand_is x index h.0 inside in
      let second = operand_is y index h.1 inside in
      λ i. value_of op t (wrap t (first i)) (wrap t (second i))
  value_is (ops.Compare op x y) t h index inside =
      let first = operand_is x index h.1 inside in
      let second = operand_is y index h.2 inside in
      λ i. pos (from_bool (compare_of op (first i) (second i)))
  value_is (ops.Select choice x y) t h index inside =
      let first = operand_is choice index h.0 inside in
      let second = operand_is x index h.1 inside in
      let third = operand_is y index h.2 inside in
      λ i. if is_zero (first i) then wrap t (third i) else wrap t (second i)
  value_is (ops.Cast x) t h index inside = ap (wrap t) (operand_is x index h inside)
  value_is (ops.Fill x) t h index inside = refl
  value_is (ops.Count x) t h index inside = refl
  value_is (ops.List shape list) t h index inside = refl

  flag_is : (op : MapOp) (t : DType) → Takes op inputs rect t → (index : List ℕ) → IsIn rect index → map_flag op t (a ∷ b ∷ c ∷ []) index ≡ lent_flag op t inputs index
  flag_is (ops.Unary op x) t h index inside = refl
  flag_is (ops.Binary op x y) t h index inside = ap (λ n. flag_of op (wrap t n)) (operand_is y index h.1 inside)
  flag_is (ops.Compare op x y) t h index inside = refl
  flag_is (ops.Select choice x y) t h index inside = refl
  flag_is (ops.Cast x) t h index inside = refl
  flag_is (ops.Fill x) t h index inside = refl
  flag_is (ops.Count x) t h index inside = refl
  flag_is (ops.List shape list) t h index inside = refl

  pub evaluates : (op : MapOp) (t : DType) (answer : AnyTile × Flag) → Takes op inputs rect t → Maps op t (a ∷ b ∷ c ∷ []) rect answer → Evaluates op t inputs rect answer
  evaluates op t answer h maps = (
    maps.0,
    maps.1,
    maps.2 ∙ map_along (map_value op t (a ∷ b ∷ c ∷ [])) (lent_value op t inputs) (indices rect) (λ k index at. value_is op t h index (stands_once rect k index at).0),
    maps.3 ∙ ap first_flag (map_along (map_flag op t (a ∷ b ∷ c ∷ [])) (lent_flag op t inputs) (indices rect) (λ k index at. flag_is op t h index (stands_once rect k index at).0)),
  )
