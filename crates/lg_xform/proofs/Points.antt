-- The root index of an index, axis after axis.
use Rattle.std.proofs.Common.{◌≡◌, ℕ, ◌+◌, ◌*◌, ◌<◌, ◌≤◌, List, [], ◌∷◌, length, map, get_or, set, drop, Some, slice_get, sym, ap, ◌∙◌, arith}
use Rattle.std.proofs.lemmas.List.{drop_more, drop_all, get_or-take}
use Rattle.lg_space.specs.Rectangle.{IsIn}
use Rattle.lg_space.specs.declared.point.TheConstants.{MAX_AXES}
use Rattle.lg_space.specs.Stored.{MAX_END}
use Rattle.lg_shape.specs.Shapes.{whole, places, place_of}
use Rattle.lg_xform.specs.declared.chain.Chain.{Chain}
use Rattle.lg_xform.specs.Moves.{steps, add_at, moved, IsHeld}
use Rattle.lg_xform.specs.Chains.{root_of, axes_of, shape_of, mapped}
use Rattle.lg_xform.proofs.Insides.{in_whole_axes, in_whole_below}
use Rattle.lg_xform.proofs.Sums.{total_within, get_or-moved, get_or-add_at, length-add_at, add_at_set, hit_same}
use Rattle.lg_xform.proofs.Held.{inside}
use Rattle.lg_xform.proofs.Maps.{at_place}
use Rattle.lg_xform.proofs.Edits.{none, view_of, length-axes_of, length-shape_of, axis_rooted, extent_at, read_at, root_small}

-- what is known where an axis is reached
pub record AtAxis (c : Chain) (index at : List ℕ) (k n : ℕ) : Type 0 where
  pub reached : k < length index
  pub below : get_or index k 0 < (get_or c.axes k none).extent
  pub rooted : (get_or c.axes k none).root < 4
  pub fits : get_or at (get_or c.axes k none).root 0 + n * (get_or c.axes k none).stride ≤ MAX_END
  pub next : moved (set at (get_or c.axes k none).root (get_or at (get_or c.axes k none).root 0 + n * (get_or c.axes k none).stride)) (drop (k + 1) (axes_of c)) (drop (k + 1) index)
      ≡ moved c.from (axes_of c) index

module _ (c : Chain) (index : List ℕ) (long : length c.axes ≡ 4) (wide : length c.from ≡ 4) (in' : IsIn (whole (shape_of c)) index) where
  -- no coordinate is above the root's
  pub final_small : (k : ℕ) → k < 4 → get_or (moved c.from (axes_of c) index) k 0 ≤ MAX_END
  final_small k lt =
      let held : IsHeld c.root c.from (axes_of c) = c.held in
      omega (arith, get_or-moved k c.from (axes_of c) index (omega (arith, wide)), total_within k (axes_of c) index in', held k, root_small c k)

  axes_count : length index ≡ c.count
  axes_count = omega (arith, in_whole_axes (shape_of c) index in', length-shape_of c, length-axes_of c long)

  module _ (at : List ℕ) (k : ℕ) (lt : k < c.count) (room : length at ≡ 4) (leads : moved at (drop k (axes_of c)) (drop k index) ≡ moved c.from (axes_of c) index) where
    pub extent_below : get_or index k 0 < (get_or c.axes k none).extent
    extent_below = omega (arith, in_whole_below (shape_of c) index k in' (omega (arith, length-shape_of c, length-axes_of c long)), extent_at c k (get_or c.axes k none) long lt (read_at c k long lt))

    pub known_at : (n : ℕ) → n ≡ steps (get_or c.axes k none).down (get_or c.axes k none).extent (get_or index k 0) → AtAxis c index at k n
    known_at n n_is =
        let axis = get_or c.axes k none in
        let move = n * axis.stride in
        let root = axis.root in
        let rooted = axis_rooted c k long lt in
        let rest = drop (k + 1) (axes_of c) in
        let behind = drop (k + 1) index in
        let this : get_or (axes_of c) k none ≡ axis = get_or-take c.count c.axes k none lt in
        let axes : drop k (axes_of c) ≡ axis ∷ rest = drop_more (axes_of c) k none (omega (arith, length-axes_of c long)) ∙ ap (λ a. a ∷ rest) this in
        let coordinates : drop k index ≡ get_or index k 0 ∷ behind = drop_more index k 0 (omega (arith, axes_count)) in
        let moves : steps axis.down axis.extent (get_or index k 0) * axis.stride ≡ move = ap (λ m. m * axis.stride) (sym n_is) in
        let on : moved (add_at at root move) rest behind ≡ moved c.from (axes_of c) index =
        ap (λ m. moved (add_at at root m) rest behind) (sym moves) ∙ (λ i. moved at (sym axes i) (sym coordinates i)) ∙ leads in
        let grown = get_or-add_at at root root move (omega (arith, room)) in
        let last = get_or-moved root (add_at at root move) rest behind (omega (arith, room, length-add_at at root move)) in
        let same = ap (λ l. get_or l root 0) on in
        record {
          reached = omega (arith, axes_count);
          below = extent_below;
          rooted = rooted;
          fits = omega (arith, grown, hit_same root move, last, same, final_small root rooted);
          next = ap (λ l. moved l rest behind) (add_at_set at root move (omega (arith, room))) ∙ on;
        }

  -- no axis is left
  pub all_axes : (at : List ℕ) (k : ℕ) → c.count ≤ k → moved at (drop k (axes_of c)) (drop k index) ≡ moved c.from (axes_of c) index → at ≡ moved c.from (axes_of c) index
  all_axes at k past leads =
      let end : drop k (axes_of c) ≡ [] = drop_all k (axes_of c) (omega (arith, length-axes_of c long)) in
      ap (λ a. moved at a (drop k index)) (sym end) ∙ leads

  -- the root index is in the root, and its place is the one that the view has
  pub mapped_inside : IsIn (whole (root_of c)) (mapped c index)
  mapped_inside =
      let few : length c.root ≤ MAX_AXES = (let s = c.root_shape in s.axes) in
      inside c.root c.from (axes_of c) index (view_of c) (omega (arith, wide, few)) in'

  pub mapped_place : slice_get (map (λ i. place_of (root_of c) (mapped c i)) (places (shape_of c))) (place_of (shape_of c) index) ≡ Some (place_of (root_of c) (mapped c index))
  mapped_place = at_place (shape_of c) (λ i. place_of (root_of c) (mapped c i)) index in'
