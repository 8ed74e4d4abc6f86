-- Where an index leads after each step, and the places that the view then has.
use Rattle.std.proofs.Common.{◌≡◌, ℕ, suc, ◌+◌, ◌*◌, ◌<◌, ◌≤◌, List, [], ◌∷◌, length, map, get_or, set, Some, slice_get, refl, sym, ap, subst, ◌∙◌, arith}
use Rattle.std.specs.List.{insert, remove, range_with_len}
use Rattle.std.specs.List.Sorted.{IsPermutation}
use Rattle.std.specs.Option.{option_map}
use Rattle.std.proofs.lemmas.Option.{slice_get-map, get_or_from_slice_get}
use Rattle.lg_space.specs.Rectangle.{IsIn}
use Rattle.lg_space.proofs.Places.{stands_at_place, stands_once}
use Rattle.lg_shape.specs.Shapes.{whole, places, place_of}
use Rattle.lg_shape.specs.Views.{Layout, place_at, stepped, shape_after, index_before, put_at, IsStepOf}
use Rattle.lg_shape.specs.declared.step.Step.{Step}
use Rattle.lg_xform.specs.declared.axis.ViewAxis.{ViewAxis}
use Rattle.lg_xform.specs.declared.chain.Chain.{Chain}
use Rattle.lg_xform.specs.Moves.{steps, add_at, moved, hit}
use Rattle.lg_xform.specs.Chains.{root_of, shape_of, mapped, layout_of, IsStepped}
use Rattle.lg_xform.proofs.Orders.{is_order, ordered, length-put_at, put_there}
use Rattle.lg_xform.proofs.Befores.{stays_inside}
use Rattle.lg_xform.proofs.Sums.{share, same_moved, total-insert, total-remove, total-set, total-ordered, hit_none, hit_both, length-add_at, get_or-add_at}

-- ---- each edit of the axes

pub moved_insert : (from : List ℕ) (axes : List ViewAxis) (j : ℕ) (new : ViewAxis) (index : List ℕ) → new.stride ≡ 0
    → j ≤ length axes → length index ≡ suc (length axes) → moved from (insert axes j new) index ≡ moved from axes (remove index j)
moved_insert from axes j new index none h e =
    same_moved from from (insert axes j new) axes index (remove index j) refl
    (λ k lt. (let rest = total-insert (share k) axes j new index
    (λ i. ap (λ s. hit k new.root (steps new.down new.extent i * s)) none ∙ ap (hit k new.root) (omega arith) ∙ hit_none k new.root) h e in
    omega (arith, rest)))

pub moved_remove : (from : List ℕ) (axes : List ViewAxis) (j : ℕ) (d : ViewAxis) (index : List ℕ) (at n : ℕ) → j < length axes
    → suc (length index) ≡ length axes → n ≡ steps (get_or axes j d).down (get_or axes j d).extent at * (get_or axes j d).stride
    → moved (add_at from (get_or axes j d).root n) (remove axes j) index ≡ moved from axes (insert index j at)
moved_remove from axes j d index at n h e is =
    let old = get_or axes j d in
    same_moved (add_at from old.root n) from (remove axes j) axes index (insert index j at) (length-add_at from old.root n)
    (λ k lt. (let inside : k < length from = omega (arith, lt, length-add_at from old.root n) in
    let here : hit k old.root n ≡ share k old at = ap (hit k old.root) is in
    omega (arith, get_or-add_at from k old.root n inside, total-remove (share k) axes j d index at h e, here)))

pub moved_set : (from : List ℕ) (axes : List ViewAxis) (j : ℕ) (new d : ViewAxis) (index : List ℕ) (at n : ℕ) → j < length axes
    → length index ≡ length axes → new.root ≡ (get_or axes j d).root
    → n + steps new.down new.extent (get_or index j 0) * new.stride ≡ steps (get_or axes j d).down (get_or axes j d).extent at * (get_or axes j d).stride
    → moved (add_at from (get_or axes j d).root n) (set axes j new) index ≡ moved from axes (set index j at)
moved_set from axes j new d index at n h e same is =
    let old = get_or axes j d in
    let i = get_or index j 0 in
    same_moved (add_at from old.root n) from (set axes j new) axes index (set index j at) (length-add_at from old.root n)
    (λ k lt. (let inside : k < length from = omega (arith, lt, length-add_at from old.root n) in
    let both = hit_both k old.root n (steps new.down new.extent i * new.stride) in
    let here : hit k old.root (n + steps new.down new.extent i * new.stride) ≡ share k old at = ap (hit k old.root) is in
    let there : share k new i ≡ hit k old.root (steps new.down new.extent i * new.stride) = ap (λ r. hit k r (steps new.down new.extent i * new.stride)) same in
    omega (arith, get_or-add_at from k old.root n inside, total-set (share k) axes j new d index at h e, here, both, there)))

pub moved_ordered : (from : List ℕ) (axes : List ViewAxis) (order : List ℕ) (d : ViewAxis) (index : List ℕ) → IsPermutation (range_with_len 0 (length axes)) order
    → length index ≡ length axes → moved from (ordered d axes order) index ≡ moved from axes (put_at order index index)
moved_ordered from axes order d index perm e =
    let o = is_order (length axes) order perm in
    same_moved from from (ordered d axes order) axes index (put_at order index index) refl
    (λ k lt. (let same = total-ordered (share k) d axes (put_at order index index) order index perm o e (length-put_at order index index ∙ e)
    (λ j in'. put_there order index index j (omega (arith, o.all)) in' (λ i j below in'. o.apart i j below (omega (arith, o.all))) (omega (arith, o.below j (omega (arith, o.all))))) in
    omega (arith, same)))

-- ---- places

pub map_within : {X Y : Type 0} (f g : X → Y) (xs : List X) → ((k : ℕ) (x : X) → slice_get xs k ≡ Some x → f x ≡ g x) → map f xs ≡ map g xs
map_within f g [] h = refl
map_within f g (x ∷ xs) h = λ i. h 0 x refl i ∷ map_within f g xs (λ k y at. h (suc k) y at) i

-- the place of an index in a list with a member for each index
pub at_place : {Y : Type 0} (shape : List ℕ) (f : List ℕ → Y) (index : List ℕ) → IsIn (whole shape) index
    → slice_get (map f (places shape)) (place_of shape index) ≡ Some (f index)
at_place shape f index h =
    slice_get-map f (places shape) (place_of shape index) ∙ ap (option_map f) (stands_at_place (whole shape) index h)

-- the places of a view of this shape, by where its indices lead
abbrev pub laid : List ℕ → List ℕ → (List ℕ → List ℕ) → Layout
laid root shape m = record { shape = shape; places = map (λ index. place_of root (m index)) (places shape) }

pub laid_after : (step : Step) (root shape : List ℕ) (m n : List ℕ → List ℕ) → IsStepOf step shape
    → ((index : List ℕ) → IsIn (whole (shape_after step shape)) index → n index ≡ m (index_before step index))
    → laid root (shape_after step shape) n ≡ stepped step (laid root shape m)
laid_after step root shape m n of same =
    let after = shape_after step shape in
    let all : map (λ index. place_of root (n index)) (places after) ≡ map (λ index. place_at (laid root shape m) (index_before step index)) (places after) =
    map_within _ _ (places after) (λ k index at.
    (let in' = (stands_once (whole after) k index at).0 in
    let before = stays_inside step shape index of in' in
    let there = get_or_from_slice_get (map (λ i. place_of root (m i)) (places shape)) (place_of shape (index_before step index)) (place_of root (m (index_before step index))) 0 (at_place shape (λ i. place_of root (m i)) (index_before step index) before) in
    ap (place_of root) (same index in') ∙ sym there)) in
    λ i. record { shape = after; places = all i }

pub layout_after : (step : Step) (old new : Chain) → IsStepOf step (shape_of old) → IsStepped step old new → layout_of new ≡ stepped step (layout_of old)
layout_after step old new of h =
    let turned : layout_of new ≡ laid (root_of old) (shape_after step (shape_of old)) (mapped new) = λ i. laid (h.root i) (h.shape i) (mapped new) in
    turned ∙ laid_after step (root_of old) (shape_of old) (mapped old) (mapped new) of
    (λ index in'. h.mapped index (subst (λ s. IsIn (whole s) index) (sym h.shape) in'))
