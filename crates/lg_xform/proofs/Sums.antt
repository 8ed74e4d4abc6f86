-- The root index of an index, coordinate by coordinate: a sum over the axes of the view.
use Rattle.std.proofs.Common.{◌≡◌, ℕ, zero, suc, ◌+◌, ◌-◌, ◌*◌, ◌<◌, ◌≤◌, Bool, true, false, List, [], ◌∷◌, length, get_or, set, refl, sym, ap, ◌∙◌, arith}
use Rattle.std.specs.List.{insert, remove, range_with_len, sum_by}
use Rattle.std.specs.List.Sorted.{IsPermutation}
use Rattle.std.proofs.lemmas.List.{ext_get_or}
use Rattle.std.proofs.lemmas.List.Sorted.{IsPermutation-refl, sum_by-IsPermutation, sum_by_pushed}
use Rattle.std.proofs.lemmas.Nat.{mul-le}
use Rattle.lg_space.specs.Rectangle.{IsIn}
use Rattle.lg_shape.specs.Shapes.{whole}
use Rattle.lg_xform.specs.declared.axis.ViewAxis.{ViewAxis}
use Rattle.lg_xform.specs.Moves.{steps, extents_of, add_at, moved, hit, reach}
use Rattle.lg_xform.proofs.Orders.{IsOrder, ordered}

-- ---- hits

pub hit_none : (k a : ℕ) → hit k a 0 ≡ 0
hit_none zero zero = refl
hit_none zero (suc a) = refl
hit_none (suc k) zero = refl
hit_none (suc k) (suc a) = hit_none k a

pub hit_same : (k n : ℕ) → hit k k n ≡ n
hit_same zero n = refl
hit_same (suc k) n = hit_same k n

pub hit_more : (k a m n : ℕ) → m ≤ n → hit k a m ≤ hit k a n
hit_more zero zero m n h = h
hit_more zero (suc a) m n h = omega arith
hit_more (suc k) zero m n h = omega arith
hit_more (suc k) (suc a) m n h = hit_more k a m n h

pub hit_both : (k a m n : ℕ) → hit k a (m + n) ≡ hit k a m + hit k a n
hit_both zero zero m n = refl
hit_both zero (suc a) m n = refl
hit_both (suc k) zero m n = refl
hit_both (suc k) (suc a) m n = hit_both k a m n

-- ---- a coordinate grows

pub length-add_at : (xs : List ℕ) (a n : ℕ) → length (add_at xs a n) ≡ length xs
length-add_at [] a n = refl
length-add_at (x ∷ xs) zero n = refl
length-add_at (x ∷ xs) (suc a) n = ap suc (length-add_at xs a n)

pub get_or-add_at : (xs : List ℕ) (k a n : ℕ) → k < length xs → get_or (add_at xs a n) k 0 ≡ get_or xs k 0 + hit k a n
get_or-add_at [] k a n h = absurd (omega arith)
get_or-add_at (x ∷ xs) zero zero n h = refl
get_or-add_at (x ∷ xs) zero (suc a) n h = omega arith
get_or-add_at (x ∷ xs) (suc k) zero n h = omega arith
get_or-add_at (x ∷ xs) (suc k) (suc a) n h = get_or-add_at xs k a n (omega arith)

-- it is a write
pub add_at_set : (xs : List ℕ) (a n : ℕ) → a < length xs → set xs a (get_or xs a 0 + n) ≡ add_at xs a n
add_at_set [] a n h = absurd (omega arith)
add_at_set (x ∷ xs) zero n h = refl
add_at_set (x ∷ xs) (suc a) n h = ap (λ l. x ∷ l) (add_at_set xs a n (omega arith))

-- ---- sums over the axes

-- the sum of what f tells of each axis and its coordinate
abbrev pub total : (ViewAxis → ℕ → ℕ) → List ViewAxis → List ℕ → ℕ
total f [] index = 0
total f (axis ∷ axes) [] = 0
total f (axis ∷ axes) (i ∷ index) = f axis i + total f axes index

-- by how much an axis moves a coordinate of the root
abbrev pub share : ℕ → ViewAxis → ℕ → ℕ
share k axis i = hit k axis.root (steps axis.down axis.extent i * axis.stride)

pub length-moved : (from : List ℕ) (axes : List ViewAxis) (index : List ℕ) → length (moved from axes index) ≡ length from
length-moved from [] index = refl
length-moved from (axis ∷ axes) [] = refl
length-moved from (axis ∷ axes) (i ∷ index) =
    length-moved (add_at from axis.root (steps axis.down axis.extent i * axis.stride)) axes index
    ∙ length-add_at from axis.root (steps axis.down axis.extent i * axis.stride)

pub get_or-moved : (k : ℕ) (from : List ℕ) (axes : List ViewAxis) (index : List ℕ) → k < length from
    → get_or (moved from axes index) k 0 ≡ get_or from k 0 + total (share k) axes index
get_or-moved k from [] index h = omega arith
get_or-moved k from (axis ∷ axes) [] h = omega arith
get_or-moved k from (axis ∷ axes) (i ∷ index) h =
    let n = steps axis.down axis.extent i * axis.stride in
    let rest = get_or-moved k (add_at from axis.root n) axes index (omega (arith, length-add_at from axis.root n)) in
    let first = get_or-add_at from k axis.root n h in
    omega (arith, rest, first)

-- two views lead to one root index, if each coordinate has one sum
pub same_moved : (from to : List ℕ) (axes others : List ViewAxis) (index at : List ℕ) → length from ≡ length to
    → ((k : ℕ) → k < length from → get_or from k 0 + total (share k) axes index ≡ get_or to k 0 + total (share k) others at)
    → moved from axes index ≡ moved to others at
same_moved from to axes others index at e h =
    ext_get_or 0 (moved from axes index) (moved to others at) (length-moved from axes index ∙ e ∙ sym (length-moved to others at))
    (λ k lt. (let inside : k < length from = omega (arith, lt, length-moved from axes index) in
    get_or-moved k from axes index inside ∙ h k inside ∙ sym (get_or-moved k to others at (omega arith))))

-- ---- edits of the axes

pub total-insert : (f : ViewAxis → ℕ → ℕ) (axes : List ViewAxis) (j : ℕ) (new : ViewAxis) (index : List ℕ) → ((i : ℕ) → f new i ≡ 0)
    → j ≤ length axes → length index ≡ suc (length axes) → total f (insert axes j new) index ≡ total f axes (remove index j)
total-insert f axes j new [] none h e = absurd (omega arith)
total-insert f axes zero new (i ∷ index) none h e = omega (arith, none i)
total-insert f [] (suc j) new (i ∷ index) none h e = absurd (omega arith)
total-insert f (axis ∷ axes) (suc j) new (i ∷ index) none h e =
    let rest = total-insert f axes j new index none (omega arith) (omega arith) in omega arith

pub total-remove : (f : ViewAxis → ℕ → ℕ) (axes : List ViewAxis) (j : ℕ) (d : ViewAxis) (index : List ℕ) (at : ℕ) → j < length axes
    → suc (length index) ≡ length axes → total f axes (insert index j at) ≡ f (get_or axes j d) at + total f (remove axes j) index
total-remove f [] j d index at h e = absurd (omega arith)
total-remove f (axis ∷ axes) zero d index at h e = refl
total-remove f (axis ∷ axes) (suc j) d [] at h e = absurd (omega arith)
total-remove f (axis ∷ axes) (suc j) d (i ∷ index) at h e =
    let rest = total-remove f axes j d index at (omega arith) (omega arith) in omega arith

pub total-set : (f : ViewAxis → ℕ → ℕ) (axes : List ViewAxis) (j : ℕ) (new d : ViewAxis) (index : List ℕ) (at : ℕ) → j < length axes
    → length index ≡ length axes
    → total f (set axes j new) index + f (get_or axes j d) at ≡ total f axes (set index j at) + f new (get_or index j 0)
total-set f [] j new d index at h e = absurd (omega arith)
total-set f (axis ∷ axes) j new d [] at h e = absurd (omega arith)
total-set f (axis ∷ axes) zero new d (i ∷ index) at h e = omega arith
total-set f (axis ∷ axes) (suc j) new d (i ∷ index) at h e =
    let rest = total-set f axes j new d index at (omega arith) (omega arith) in omega arith

-- ---- another order

sum_by_cons : {X : Type 0} (f : X → ℕ) (x : X) (xs : List X) → sum_by f (x ∷ xs) ≡ f x + sum_by f xs
sum_by_cons f x xs = sum_by_pushed f x xs (x ∷ xs) (IsPermutation-refl (x ∷ xs))

total_by_order : (f : ViewAxis → ℕ → ℕ) (d : ViewAxis) (axes : List ViewAxis) (put order index : List ℕ) → length index ≡ length order
    → ((j : ℕ) → j < length order → get_or put (get_or order j 0) 0 ≡ get_or index j 0)
    → total f (ordered d axes order) index ≡ sum_by (λ a. f (get_or axes a d) (get_or put a 0)) order
total_by_order f d axes put [] index e h = refl
total_by_order f d axes put (a ∷ order) [] e h = absurd (omega arith)
total_by_order f d axes put (a ∷ order) (i ∷ index) e h =
    let rest = total_by_order f d axes put order index (omega arith) (λ j lt. h (suc j) (omega arith)) in
    let first : f (get_or axes a d) i ≡ f (get_or axes a d) (get_or put a 0) = ap (f (get_or axes a d)) (sym (h 0 (omega arith))) in
    omega (arith, rest, first, sum_by_cons (λ b. f (get_or axes b d) (get_or put b 0)) a order)

total_by_range : (f : ViewAxis → ℕ → ℕ) (g : ℕ → ℕ) (d : ViewAxis) (axes : List ViewAxis) (index : List ℕ) (from : ℕ) → length index ≡ length axes
    → ((j : ℕ) → j < length axes → g (from + j) ≡ f (get_or axes j d) (get_or index j 0))
    → sum_by g (range_with_len from (length axes)) ≡ total f axes index
total_by_range f g d [] index from e h = refl
total_by_range f g d (axis ∷ axes) [] from e h = absurd (omega arith)
total_by_range f g d (axis ∷ axes) (i ∷ index) from e h =
    let rest = total_by_range f g d axes index (from + 1) (omega arith) (λ j lt. (let moved_on : g (from + 1 + j) ≡ g (from + suc j) = ap g (omega arith) in moved_on ∙ h (suc j) (omega arith))) in
    let first : g from ≡ f axis i = ap g (omega arith) ∙ h 0 (omega arith) in
    omega (arith, rest, first, sum_by_cons g from (range_with_len (from + 1) (length axes)))

pub total-ordered : (f : ViewAxis → ℕ → ℕ) (d : ViewAxis) (axes : List ViewAxis) (put order index : List ℕ)
    → IsPermutation (range_with_len 0 (length axes)) order → IsOrder (length axes) order → length index ≡ length axes → length put ≡ length axes
    → ((j : ℕ) → j < length order → get_or put (get_or order j 0) 0 ≡ get_or index j 0)
    → total f (ordered d axes order) index ≡ total f axes put
total-ordered f d axes put order index perm o e p h =
    total_by_order f d axes put order index (e ∙ sym o.all) h
    ∙ sum_by-IsPermutation (λ a. f (get_or axes a d) (get_or put a 0)) (range_with_len 0 (length axes)) order perm
    ∙ total_by_range f (λ a. f (get_or axes a d) (get_or put a 0)) d axes put 0 p (λ j lt. (let same : 0 + j ≡ j = omega arith in ap (λ a. f (get_or axes a d) (get_or put a 0)) same))

-- ---- how far axes reach

-- by how much an axis moves a coordinate at most
abbrev pub farthest : ℕ → ViewAxis → ℕ → ℕ
farthest k axis i = hit k axis.root ((axis.extent - 1) * axis.stride)

pub reach_total : (k : ℕ) (axes : List ViewAxis) (index : List ℕ) → length index ≡ length axes → reach k axes ≡ total (farthest k) axes index
reach_total k [] index e = refl
reach_total k (axis ∷ axes) [] e = absurd (omega arith)
reach_total k (axis ∷ axes) (i ∷ index) e = let rest = reach_total k axes index (omega arith) in omega (arith, rest)

pub steps_within : (down : Bool) (extent i : ℕ) → i < extent → steps down extent i ≤ extent - 1
steps_within true extent i h = omega arith
steps_within false extent i h = omega arith

pub share_within : (k : ℕ) (axis : ViewAxis) (i : ℕ) → i < axis.extent → share k axis i ≤ farthest k axis i
share_within k axis i h =
    hit_more k axis.root (steps axis.down axis.extent i * axis.stride) ((axis.extent - 1) * axis.stride)
    (mul-le (steps axis.down axis.extent i) axis.stride (axis.extent - 1) axis.stride (steps_within axis.down axis.extent i h) (omega arith))

pub total_within : (k : ℕ) (axes : List ViewAxis) (index : List ℕ) → IsIn (whole (extents_of axes)) index → total (share k) axes index ≤ reach k axes
total_within k [] index h = omega arith
total_within k (axis ∷ axes) [] h = absurd h
total_within k (axis ∷ axes) (i ∷ index) h =
    let rest = total_within k axes index h.2 in
    let first = share_within k axis i h.1 in
    omega (arith, rest, first)

pub reach-insert : (k : ℕ) (axes : List ViewAxis) (j : ℕ) (new : ViewAxis) → reach k (insert axes j new) ≡ farthest k new 0 + reach k axes
reach-insert k axes zero new = refl
reach-insert k [] (suc j) new = refl
reach-insert k (axis ∷ axes) (suc j) new = let rest = reach-insert k axes j new in omega arith

pub reach-remove : (k : ℕ) (axes : List ViewAxis) (j : ℕ) (d : ViewAxis) → j < length axes → reach k axes ≡ farthest k (get_or axes j d) 0 + reach k (remove axes j)
reach-remove k [] j d h = absurd (omega arith)
reach-remove k (axis ∷ axes) zero d h = refl
reach-remove k (axis ∷ axes) (suc j) d h = let rest = reach-remove k axes j d (omega arith) in omega arith

pub reach-set : (k : ℕ) (axes : List ViewAxis) (j : ℕ) (new d : ViewAxis) → j < length axes
    → reach k (set axes j new) + farthest k (get_or axes j d) 0 ≡ reach k axes + farthest k new 0
reach-set k [] j new d h = absurd (omega arith)
reach-set k (axis ∷ axes) zero new d h = omega arith
reach-set k (axis ∷ axes) (suc j) new d h = let rest = reach-set k axes j new d (omega arith) in omega arith
