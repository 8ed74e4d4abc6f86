-- From two worlds of which one stands for the other to the two that follow.
use Rattle.std.proofs.Common.{◌≡◌, ◌≢◌, ◌↔◌, ℕ, ◌<◌, Bool, true, false, ◌⊎◌, inl, inr, ⊎_elim, List, length, map, get_or, Option, None, Some, option_map, refl, sym, ap, subst, ◌∙◌, ℤ, pos, arith, bytes_eq, if◌then◌else◌, slice_get}
use Rattle.std.specs.List.{range_with_len}
use Rattle.std.proofs.lemmas.List.{same_lists, length-map}
use Rattle.std.proofs.lemmas.List.FromFn.{length-range_with_len, get_or-range_with_len}
use Rattle.std.proofs.lemmas.Option.{slice_get-map, slice_get_within, slice_get-get_or, get_or_from_slice_get, same_Some}
use Rattle.lg_meaning.specs.Memory.{Root, View, Bound, weak, array, numbers_of}
use Rattle.lg_session.specs.Worlds.{Roots, Names, Place, number_at, shown_in, put, SameKind, SameBound, AtOneIndex, Linked, Stands, IsShown, AreInside, NoRepeat}

-- ---- one link

-- a place of a root that is what it was
pub number_kept : (A C : Roots) (root : ℕ) (p : Place) → root ≡ p.0 → C root ≡ A root → number_at C p ≡ number_at A p
number_kept A C root p is same = ap (λ (r : Option Root). get_or (numbers_of r) p.1 (pos 0)) (ap C (sym is) ∙ same ∙ ap A is)

-- the root of a linked place is there
pub linked_here : (A : Roots) (m n : Names) (p q : Place) → AreInside A m → Linked m n p q → (root : Root) × (A p.0 ≡ Some root)
linked_here A m n p q inside link =
    let i = inside link.name link.a link.here in
    (i.root, ap A (sym link.both.first_root) ∙ i.held)

pub linked_there : (B : Roots) (m n : Names) (p q : Place) → AreInside B n → Linked m n p q → (root : Root) × (B q.0 ≡ Some root)
linked_there B m n p q inside link =
    let i = inside link.name link.b link.there in
    (i.root, ap B (sym link.both.second_root) ∙ i.held)

-- what two views show, index by index
pub shown_at : (C D : Roots) (a b : View) (p q : Place) → shown_in C a ≡ shown_in D b → AtOneIndex a b p q → number_at C p ≡ number_at D q
shown_at C D a b p q same both =
    let here : slice_get (shown_in C a) both.index ≡ Some (number_at C (a.root, p.1)) =
    slice_get-map (λ place. number_at C (a.root, place)) a.places both.index ∙ ap (option_map (λ place. number_at C (a.root, place))) both.first in
    let there : slice_get (shown_in D b) both.index ≡ Some (number_at D (b.root, q.1)) =
    slice_get-map (λ place. number_at D (b.root, place)) b.places both.index ∙ ap (option_map (λ place. number_at D (b.root, place))) both.second in
    let equal : number_at C (a.root, p.1) ≡ number_at D (b.root, q.1) =
    same_Some _ _ (sym here ∙ ap (λ l. slice_get l both.index) same ∙ there) in
    ap (λ root. number_at C (root, p.1)) (sym both.first_root) ∙ equal ∙ ap (λ root. number_at D (root, q.1)) both.second_root

-- views that show one another have the same numbers
pub shown_alike : (A B : Roots) (m n : Names) (a b : View) → Stands A B m n → IsShown m n a b → shown_in A a ≡ shown_in B b
shown_alike A B m n a b s shown =
    let f : ℕ → ℤ = λ place. number_at A (a.root, place) in
    let g : ℕ → ℤ = λ place. number_at B (b.root, place) in
    let sizes : length (map f a.places) ≡ length (map g b.places) = length-map a.places f ∙ shown.kind.count ∙ sym (length-map b.places g) in
    same_lists (map f a.places) (map g b.places) sizes (λ k d below. at k d (omega (arith, length-map a.places f)))
  where
    at : (k : ℕ) (d : ℤ) → k < length a.places
        → get_or (map (λ place. number_at A (a.root, place)) a.places) k d ≡ get_or (map (λ place. number_at B (b.root, place)) b.places) k d
    at k d below =
        let first : slice_get a.places k ≡ Some (get_or a.places k 0) = slice_get-get_or a.places k 0 below in
        let second : slice_get b.places k ≡ Some (get_or b.places k 0) = slice_get-get_or b.places k 0 (omega (arith, shown.kind.count)) in
        let p : Place = (a.root, get_or a.places k 0) in
        let q : Place = (b.root, get_or b.places k 0) in
        let link : Linked m n p q = shown.linked p q (record { index = k; first_root = refl; first = first; second_root = refl; second = second }) in
        let here : slice_get (map (λ place. number_at A (a.root, place)) a.places) k ≡ Some (number_at A p) =
        slice_get-map (λ place. number_at A (a.root, place)) a.places k ∙ ap (option_map (λ place. number_at A (a.root, place))) first in
        let there : slice_get (map (λ place. number_at B (b.root, place)) b.places) k ≡ Some (number_at B q) =
        slice_get-map (λ place. number_at B (b.root, place)) b.places k ∙ ap (option_map (λ place. number_at B (b.root, place))) second in
        get_or_from_slice_get _ k _ d here ∙ s.shows p q link ∙ sym (get_or_from_slice_get _ k _ d there)

-- what a name stands for is shown by its own link
pub named_shown : (A B : Roots) (m n : Names) (w : List ℕ) (a b : View) → Stands A B m n → m w ≡ Some (array a) → n w ≡ Some (array b) → IsShown m n a b
named_shown A B m n w a b s here there = record {
  kind = subst (λ (o : Option Bound). SameBound o (Some (array b))) here (subst (SameBound (m w)) there (s.same w));
  linked = λ p q both. record { name = w; a = a; b = b; here = here; there = there; both = both };
}

-- the other world has a view of the same name
pub named_there : (A B : Roots) (m n : Names) (w : List ℕ) (a : View) → Stands A B m n → m w ≡ Some (array a) → (b : View) × (n w ≡ Some (array b))
named_there A B m n w a s here = found (n w) refl (subst (λ (o : Option Bound). SameBound o (n w)) here (s.same w))
  where
    found : (o : Option Bound) → n w ≡ o → SameBound (Some (array a)) o → (b : View) × (n w ≡ Some (array b))
    found None is h = absurd h
    found (Some (weak v)) is h = absurd h
    found (Some (array b)) is h = (b, is)

-- ---- the names after one was bound

-- two places that two values have at one index, where both are views
pub record BoundLinked (x y : Bound) (p q : Place) : Type 0 where
  pub a : View
  pub b : View
  pub here : x ≡ array a
  pub there : y ≡ array b
  pub both : AtOneIndex a b p q

pub put_same : (m n : Names) (w : List ℕ) (x y : Bound) → SameBound (Some x) (Some y) → ((v : List ℕ) → SameBound (m v) (n v)) → (v : List ℕ) → SameBound (put m w x v) (put n w y v)
put_same m n w x y new old v = by_test (bytes_eq w v)
  where
    by_test : (b : Bool) → SameBound (if b then Some x else m v) (if b then Some y else n v)
    by_test true = new
    by_test false = old v

pub put_linked : (m n : Names) (w : List ℕ) (x y : Bound) (p q : Place) → Linked (put m w x) (put n w y) p q → BoundLinked x y p q ⊎ Linked m n p q
put_linked m n w x y p q link = by_test (bytes_eq w link.name) link.here link.there
  where
    by_test : (b : Bool) → (if b then Some x else m link.name) ≡ Some (array link.a) → (if b then Some y else n link.name) ≡ Some (array link.b)
        → BoundLinked x y p q ⊎ Linked m n p q
    by_test true here there = inl (record { a = link.a; b = link.b; here = same_Some _ _ here; there = same_Some _ _ there; both = link.both })
    by_test false here there = inr (record { name = link.name; a = link.a; b = link.b; here = here; there = there; both = link.both })

-- a view that a name stands for after one was bound is the new one, or an old one
pub put_bound : (m : Names) (w : List ℕ) (x : Bound) (v : List ℕ) (view : View) → put m w x v ≡ Some (array view) → (x ≡ array view) ⊎ (m v ≡ Some (array view))
put_bound m w x v view is = by_test (bytes_eq w v) is
  where
    by_test : (b : Bool) → (if b then Some x else m v) ≡ Some (array view) → (x ≡ array view) ⊎ (m v ≡ Some (array view))
    by_test true e = inl (same_Some _ _ e)
    by_test false e = inr e

-- ---- steps

-- no new link, and each one that is left holds what it held
pub narrowed : (A B C D : Roots) (m n k l : Names) → Stands A B m n → ((w : List ℕ) → SameBound (k w) (l w))
    → ((p q : Place) → Linked k l p q → Linked m n p q)
    → ((p q : Place) → Linked k l p q → number_at C p ≡ number_at A p)
    → ((p q : Place) → Linked k l p q → number_at D q ≡ number_at B q)
    → Stands C D k l
narrowed A B C D m n k l s same old here there = record {
  same = same;
  shows = λ p q link. here p q link ∙ s.shows p q (old p q link) ∙ sym (there p q link);
  one = λ p q r t first second. s.one p q r t (old p q first) (old r t second);
}

-- a name is bound to weak numbers, or to views whose links there were
pub rebound : (A B C D : Roots) (m n : Names) (w : List ℕ) (x y : Bound) → Stands A B m n → SameBound (Some x) (Some y)
    → ((p q : Place) → BoundLinked x y p q → Linked m n p q)
    → ((p q : Place) → Linked (put m w x) (put n w y) p q → number_at C p ≡ number_at A p)
    → ((p q : Place) → Linked (put m w x) (put n w y) p q → number_at D q ≡ number_at B q)
    → Stands C D (put m w x) (put n w y)
rebound A B C D m n w x y s same old here there =
    narrowed A B C D m n (put m w x) (put n w y) s (put_same m n w x y same s.same)
    (λ p q link. ⊎_elim (old p q) (λ h. h) (put_linked m n w x y p q link)) here there

repeat_alike : (a b : View) → NoRepeat a.places → NoRepeat b.places → (p q r t : Place) → AtOneIndex a b p q → AtOneIndex a b r t → (p ≡ r) ↔ (q ≡ t)
repeat_alike a b first second p q r t x y = (forward, backward)
  where
    forward : p ≡ r → q ≡ t
    forward e =
        let index : x.index ≡ y.index = first x.index y.index r.1 (x.first ∙ ap (λ (z : Place). Some z.1) e) y.first in
        let place : q.1 ≡ t.1 = same_Some _ _ (sym x.second ∙ ap (slice_get b.places) index ∙ y.second) in
        let root : q.0 ≡ t.0 = sym x.second_root ∙ y.second_root in
        λ i. (root i, place i)

    backward : q ≡ t → p ≡ r
    backward e =
        let index : x.index ≡ y.index = second x.index y.index t.1 (x.second ∙ ap (λ (z : Place). Some z.1) e) y.second in
        let place : p.1 ≡ r.1 = same_Some _ _ (sym x.first ∙ ap (slice_get a.places) index ∙ y.first) in
        let root : p.0 ≡ r.0 = sym x.first_root ∙ y.first_root in
        λ i. (root i, place i)

-- each link is one of two views without repeats, of roots that no link was at, or an old one
pub widened : (A B C D : Roots) (m n k l : Names) (a b : View) → Stands A B m n → ((w : List ℕ) → SameBound (k w) (l w))
    → ((p q : Place) → Linked k l p q → AtOneIndex a b p q ⊎ Linked m n p q)
    → ((p q : Place) → Linked m n p q → (a.root ≢ p.0) × (b.root ≢ q.0))
    → NoRepeat a.places → NoRepeat b.places → shown_in C a ≡ shown_in D b
    → ((p q : Place) → Linked k l p q → Linked m n p q → number_at C p ≡ number_at A p)
    → ((p q : Place) → Linked k l p q → Linked m n p q → number_at D q ≡ number_at B q)
    → Stands C D k l
widened A B C D m n k l a b s same new apart first second shown here there = record {
  same = same;
  shows = λ p q link. ⊎_elim (shown_at C D a b p q shown) (λ old. here p q link old ∙ s.shows p q old ∙ sym (there p q link old)) (new p q link);
  one = λ p q r t x y. one_of p q r t (new p q x) (new r t y);
}
  where
    one_of : (p q r t : Place) → AtOneIndex a b p q ⊎ Linked m n p q → AtOneIndex a b r t ⊎ Linked m n r t → (p ≡ r) ↔ (q ≡ t)
    one_of p q r t (inl x) (inl y) = repeat_alike a b first second p q r t x y
    one_of p q r t (inl x) (inr y) =
        (λ e. absurd ((apart r t y).0 (x.first_root ∙ ap (λ (z : Place). z.0) e)), λ e. absurd ((apart r t y).1 (x.second_root ∙ ap (λ (z : Place). z.0) e)))
    one_of p q r t (inr x) (inl y) =
        (λ e. absurd ((apart p q x).0 (y.first_root ∙ ap (λ (z : Place). z.0) (sym e))), λ e. absurd ((apart p q x).1 (y.second_root ∙ ap (λ (z : Place). z.0) (sym e))))
    one_of p q r t (inr x) (inr y) = s.one p q r t x y

-- a root that is there is no root that was free
pub not_free : (A : Roots) (root other : ℕ) (held : Root) → A root ≡ None → A other ≡ Some held → root ≢ other
not_free A root other held free is e = absurd (none_some (sym free ∙ ap A e ∙ is))
  where
    none_some : None ≡ Some held → ⊥
    none_some e = cc

-- a name is bound to views of two new roots that show the same
pub freshly_bound : (A B C D : Roots) (m n : Names) (w : List ℕ) (a b : View) → Stands A B m n → AreInside A m → AreInside B n
    → A a.root ≡ None → B b.root ≡ None → SameKind a b → NoRepeat a.places → NoRepeat b.places → shown_in C a ≡ shown_in D b
    → ((p q : Place) → Linked (put m w (array a)) (put n w (array b)) p q → a.root ≢ p.0 → number_at C p ≡ number_at A p)
    → ((p q : Place) → Linked (put m w (array a)) (put n w (array b)) p q → b.root ≢ q.0 → number_at D q ≡ number_at B q)
    → Stands C D (put m w (array a)) (put n w (array b))
freshly_bound A B C D m n w a b s inside sound free unused same first second shown here there =
    widened A B C D m n (put m w (array a)) (put n w (array b)) a b s (put_same m n w (array a) (array b) same s.same) new apart first second shown
    (λ p q link old. here p q link (apart p q old).0) (λ p q link old. there p q link (apart p q old).1)
  where
    apart : (p q : Place) → Linked m n p q → (a.root ≢ p.0) × (b.root ≢ q.0)
    apart p q link =
        let i = linked_here A m n p q inside link in
        let j = linked_there B m n p q sound link in
        (not_free A a.root p.0 i.0 free i.1, not_free B b.root q.0 j.0 unused j.1)

    views : (p q : Place) → BoundLinked (array a) (array b) p q → AtOneIndex a b p q
    views p q link =
        let x : link.a ≡ a = cc in
        let y : link.b ≡ b = cc in
        subst (λ (v : View). AtOneIndex v b p q) x (subst (λ (v : View). AtOneIndex link.a v p q) y link.both)

    new : (p q : Place) → Linked (put m w (array a)) (put n w (array b)) p q → AtOneIndex a b p q ⊎ Linked m n p q
    new p q link = ⊎_elim (λ x. inl (views p q x)) (λ x. inr x) (put_linked m n w (array a) (array b) p q link)

-- ---- the view of a whole root

pub range_place : (n i place : ℕ) → slice_get (range_with_len 0 n) i ≡ Some place → place ≡ i
range_place n i place is =
    let below : i < n = omega (arith, slice_get_within (range_with_len 0 n) i place is, length-range_with_len 0 n) in
    sym (get_or_from_slice_get (range_with_len 0 n) i place 0 is) ∙ get_or-range_with_len 0 n i 0 below ∙ omega arith

pub range_no_repeat : (n : ℕ) → NoRepeat (range_with_len 0 n)
range_no_repeat n i j place first second = sym (range_place n i place first) ∙ range_place n j place second
