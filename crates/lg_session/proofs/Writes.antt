-- Writes of the same values through two views that show one another.
use Rattle.std.proofs.Common.{◌≡◌, ◌≢◌, ℕ, suc, zero, ◌==◌, eqb-true, ◌<◌, ◌⊎◌, inl, inr, ⊎_elim, List, [], ◌∷◌, length, map, get_or, set, Option, Some, slice_get, refl, sym, ap, ◌∙◌, arith, ℤ, pos}
use Rattle.std.proofs.lemmas.Bool.{cases_Bool}
use Rattle.std.proofs.lemmas.List.{length-set, get_or-set_same, get_or-set_other, length-map}
use Rattle.std.proofs.lemmas.Option.{slice_get_within, slice_get-get_or, same_Some}
use Rattle.lg_elem.specs.Types.{wrap}
use Rattle.lg_meaning.specs.Memory.{Root, View, Memory, numbers_of}
use Rattle.lg_meaning.specs.Assignments.{put_all, root_written, memory_written, written as written_memory}
use Rattle.lg_session.specs.Worlds.{Roots, Names, Place, number_at, Linked, Stands, IsShown, IsInside, NoRepeat}
use Rattle.lg_session.specs.Puts.{Writes}
use Rattle.lg_session.proofs.HeldLemmas.{unequal}

-- ---- places that are among some

abbrev pub PlacedOrNot : List ℕ → ℕ → Type 0
PlacedOrNot places p = ((i : ℕ) × (slice_get places i ≡ Some p)) ⊎ ((i : ℕ) → slice_get places i ≡ Some p → ⊥)

nothing_there : (i p : ℕ) → slice_get {X = ℕ} [] i ≡ Some p → ⊥
nothing_there i p at = cc

not_there : (x p i : ℕ) (places : List ℕ) → (x ≡ p → ⊥) → ((j : ℕ) → slice_get places j ≡ Some p → ⊥) → slice_get (x ∷ places) i ≡ Some p → ⊥
not_there x p zero places apart none at = apart (same_Some x p at)
not_there x p (suc i) places apart none at = none i at

pub placed_or_not : (places : List ℕ) (p : ℕ) → PlacedOrNot places p
placed_or_not [] p = inr (λ i at. nothing_there i p at)
placed_or_not (x ∷ places) p =
    ⊎_elim
    (λ y. inl (0, ap Some (eqb-true x p y)))
    (λ n. ⊎_elim (λ (f : (i : ℕ) × (slice_get places i ≡ Some p)). inl (suc f.0, f.1)) (λ none. inr (λ i at. not_there x p i places (unequal x p n) none at)) (placed_or_not places p))
    (cases_Bool (x == p))

-- ---- one world

module _ (X Y : Roots) (v : View) (values : List ℤ) (w : Writes X Y v values) where
  number_after : (p : Place) → v.root ≡ p.0 → number_at Y p ≡ get_or w.new.numbers p.1 (pos 0)
  number_after p is = ap (λ (r : Option Root). get_or (numbers_of r) p.1 (pos 0)) (ap Y (sym is) ∙ w.now)

  number_before : (p : Place) → v.root ≡ p.0 → number_at X p ≡ get_or w.old.numbers p.1 (pos 0)
  number_before p is = ap (λ (r : Option Root). get_or (numbers_of r) p.1 (pos 0)) (ap X (sym is) ∙ w.was)

  changed : (i : ℕ) (p : Place) → v.root ≡ p.0 → slice_get v.places i ≡ Some p.1 → number_at Y p ≡ get_or values i (pos 0)
  changed i p is at = number_after p is ∙ w.puts.put i p.1 at

  unchanged : (p : Place) → (v.root ≡ p.0 → (i : ℕ) → slice_get v.places i ≡ Some p.1 → ⊥) → number_at Y p ≡ number_at X p
  unchanged p out =
      ⊎_elim
      (λ y. let is = eqb-true v.root p.0 y in number_after p is ∙ w.puts.kept p.1 (out is) ∙ sym (number_before p is))
      (λ n. ap (λ (r : Option Root). get_or (numbers_of r) p.1 (pos 0)) (w.others p.0 (λ e. unequal v.root p.0 n (sym e))))
      (cases_Bool (v.root == p.0))

  -- what was inside its root still is
  pub inside_written : (view : View) → IsInside X view → IsInside Y view
  inside_written view h =
      ⊎_elim
      (λ y. let is = eqb-true v.root view.root y in
      let same : w.old ≡ h.root = same_Some w.old h.root (sym w.was ∙ ap X is ∙ h.held) in
      record {
        root = w.new;
        held = ap Y (sym is) ∙ w.now;
        dtype = w.dtype ∙ ap (λ (r : Root). r.dtype) same ∙ h.dtype;
        places = λ index place at.
            let below = h.places index place at in
            omega (arith, below, w.puts.same_length, ap (λ (r : Root). length r.numbers) same);
      })
      (λ n. record { root = h.root; held = w.others view.root (λ e. unequal v.root view.root n (sym e)) ∙ h.held; dtype = h.dtype; places = h.places })
      (cases_Bool (v.root == view.root))

-- ---- two worlds

module _ (A B C D : Roots) (m n : Names) (a b : View) (values : List ℤ) (s : Stands A B m n) (shown : IsShown m n a b) (here : Writes A C a values) (there : Writes B D b values) where
  -- the places that the two views have at one index
  both_at : (i q : ℕ) → slice_get b.places i ≡ Some q → slice_get a.places i ≡ Some (get_or a.places i 0)
  both_at i q at = slice_get-get_or a.places i 0 (omega (arith, slice_get_within b.places i q at, shown.kind.count))

  link_at : (i p q : ℕ) → slice_get a.places i ≡ Some p → slice_get b.places i ≡ Some q → Linked m n (a.root, p) (b.root, q)
  link_at i p q first second = shown.linked (a.root, p) (b.root, q) (record { index = i; first_root = refl; first = first; second_root = refl; second = second })

  placed : (p q : Place) → Linked m n p q → b.root ≡ q.0 → (i : ℕ) → slice_get b.places i ≡ Some q.1 → number_at C p ≡ number_at D q
  placed p q link is i at =
      let x : ℕ = get_or a.places i 0 in
      let first : slice_get a.places i ≡ Some x = both_at i q.1 at in
      let same_q : q ≡ (b.root, q.1) = λ k. (sym is k, q.1) in
      let same_p : p ≡ (a.root, x) = (s.one p q (a.root, x) (b.root, q.1) link (link_at i x q.1 first at)).1 same_q in
      ap (number_at C) same_p ∙ changed A C a values here i (a.root, x) refl first ∙ sym (changed B D b values there i q is at)

  apart : (p q : Place) → Linked m n p q → (b.root ≡ q.0 → (i : ℕ) → slice_get b.places i ≡ Some q.1 → ⊥) → number_at C p ≡ number_at D q
  apart p q link out =
      unchanged A C a values here p (λ e i at. out_there e i at) ∙ s.shows p q link ∙ sym (unchanged B D b values there q out)
    where
      out_there : a.root ≡ p.0 → (i : ℕ) → slice_get a.places i ≡ Some p.1 → ⊥
      out_there e i at =
          let y : ℕ = get_or b.places i 0 in
          let second : slice_get b.places i ≡ Some y = slice_get-get_or b.places i 0 (omega (arith, slice_get_within a.places i p.1 at, shown.kind.count)) in
          let same_p : p ≡ (a.root, p.1) = λ k. (sym e k, p.1) in
          let same_q : q ≡ (b.root, y) = (s.one p q (a.root, p.1) (b.root, y) link (link_at i p.1 y at second)).0 same_p in
          out (ap (λ (z : Place). z.0) (sym same_q)) i (second ∙ ap (λ (z : Place). Some z.1) (sym same_q))

  shows : (p q : Place) → Linked m n p q → number_at C p ≡ number_at D q
  shows p q link =
      ⊎_elim
      (λ y. let is = eqb-true b.root q.0 y in
      ⊎_elim (λ (f : (i : ℕ) × (slice_get b.places i ≡ Some q.1)). placed p q link is f.0 f.1) (λ none. apart p q link (λ e. none)) (placed_or_not b.places q.1))
      (λ no. apart p q link (λ e. absurd (unequal b.root q.0 no e)))
      (cases_Bool (b.root == q.0))

  -- the names show the same as before in both worlds, where one write was made in each
  pub written : Stands C D m n
  written = record { same = s.same; shows = shows; one = s.one }

-- where the one view has no place twice, the other has none
pub apart_there : (A B : Roots) (m n : Names) (a b : View) → Stands A B m n → IsShown m n a b → NoRepeat a.places → NoRepeat b.places
apart_there A B m n a b s shown once i j q first second =
    let x : ℕ = get_or a.places i 0 in
    let y : ℕ = get_or a.places j 0 in
    let at_i : slice_get a.places i ≡ Some x = slice_get-get_or a.places i 0 (omega (arith, slice_get_within b.places i q first, shown.kind.count)) in
    let at_j : slice_get a.places j ≡ Some y = slice_get-get_or a.places j 0 (omega (arith, slice_get_within b.places j q second, shown.kind.count)) in
    let link : Linked m n (a.root, x) (b.root, q) = shown.linked (a.root, x) (b.root, q) (record { index = i; first_root = refl; first = at_i; second_root = refl; second = first }) in
    let other : Linked m n (a.root, y) (b.root, q) = shown.linked (a.root, y) (b.root, q) (record { index = j; first_root = refl; first = at_j; second_root = refl; second = second }) in
    let same : ◌≡◌ {A = Place} (a.root, x) (a.root, y) = (s.one (a.root, x) (b.root, q) (a.root, y) (b.root, q) link other).1 refl in
    once i j y (at_i ∙ ap (λ (z : Place). Some z.1) same) at_j

-- ---- the definition's write

tail_once : (x : ℕ) (places : List ℕ) → NoRepeat (x ∷ places) → NoRepeat places
tail_once x places once i j p first second = omega (arith, once (suc i) (suc j) p first second)

head_apart : (x : ℕ) (places : List ℕ) → NoRepeat (x ∷ places) → (i : ℕ) → slice_get places i ≡ Some x → ⊥
head_apart x places once i at = let e : 0 ≡ suc i = once 0 (suc i) x refl at in omega (arith, e)

abbrev AreBelow : List ℕ → ℕ → Type 0
AreBelow places count = (i place : ℕ) → slice_get places i ≡ Some place → place < count

length_put : (places : List ℕ) (xs old : List ℤ) → length (put_all places xs old) ≡ length old
length_put [] xs old = refl
length_put (place ∷ places) [] old = refl
length_put (place ∷ places) (x ∷ xs) old = length_put places xs (set old place x) ∙ length-set old place x

kept_put : (places : List ℕ) (xs old : List ℤ) (p : ℕ) → ((i : ℕ) → slice_get places i ≡ Some p → ⊥) → get_or (put_all places xs old) p (pos 0) ≡ get_or old p (pos 0)
kept_put [] xs old p out = refl
kept_put (place ∷ places) [] old p out = refl
kept_put (place ∷ places) (x ∷ xs) old p out =
    kept_put places xs (set old place x) p (λ i at. out (suc i) at) ∙ get_or-set_other old place p x (pos 0) (λ e. out 0 (ap Some (sym e)))

put_put : (places : List ℕ) (xs old : List ℤ) → length xs ≡ length places → NoRepeat places → AreBelow places (length old) → (i p : ℕ) → slice_get places i ≡ Some p
    → get_or (put_all places xs old) p (pos 0) ≡ get_or xs i (pos 0)
put_put [] xs old count once below i p at = absurd (nothing_there i p at)
put_put (place ∷ places) [] old count once below i p at = absurd (omega (arith, count))
put_put (place ∷ places) (x ∷ xs) old count once below zero p at =
    let same : place ≡ p = same_Some place p at in
    ap (λ k. get_or (put_all places xs (set old place x)) k (pos 0)) (sym same)
    ∙ kept_put places xs (set old place x) place (head_apart place places once) ∙ get_or-set_same old place x (pos 0) (below 0 place refl)
put_put (place ∷ places) (x ∷ xs) old count once below (suc i) p at =
    put_put places xs (set old place x) (omega (arith, count)) (tail_once place places once)
    (λ j q there. omega (arith, below (suc j) q there, length-set old place x)) i p at

pub slice_get-set_same : {X : Type 0} (xs : List X) (i : ℕ) (y x : X) → slice_get xs i ≡ Some y → slice_get (set xs i x) i ≡ Some x
slice_get-set_same xs i y x at =
    let below = slice_get_within xs i y at in
    slice_get-get_or (set xs i x) i x (omega (arith, below, length-set xs i x)) ∙ ap Some (get_or-set_same xs i x x below)

pub slice_get-set_other : {X : Type 0} (xs : List X) (i j : ℕ) (x : X) → j ≢ i → slice_get (set xs i x) j ≡ slice_get xs j
slice_get-set_other [] i j x apart = refl
slice_get-set_other (y ∷ xs) zero zero x apart = absurd (apart refl)
slice_get-set_other (y ∷ xs) zero (suc j) x apart = refl
slice_get-set_other (y ∷ xs) (suc i) zero x apart = refl
slice_get-set_other (y ∷ xs) (suc i) (suc j) x apart = slice_get-set_other xs i j x (λ e. apart (ap suc e))

-- the definition's write changes the places of the view alone, and each of them to its value
pub writes_written : (memory : Memory) (view : View) (values : List ℤ) → IsInside (slice_get memory) view → NoRepeat view.places → length values ≡ length view.places
    → Writes (slice_get memory) (slice_get (written_memory memory view values)) view (map (wrap view.kind.dtype) values)
writes_written memory view values inside once count = record {
  old = root;
  new = root_written root view values;
  was = inside.held;
  now = ap (λ l. slice_get l view.root) is ∙ slice_get-set_same memory view.root root (root_written root view values) inside.held;
  dtype = refl;
  shape = refl;
  puts = record {
    same_length = length_put view.places wrapped root.numbers;
    put = put_put view.places wrapped root.numbers (length-map values (wrap view.kind.dtype) ∙ count) once inside.places;
    kept = kept_put view.places wrapped root.numbers;
  };
  others = λ other apart. ap (λ l. slice_get l other) is ∙ slice_get-set_other memory view.root other (root_written root view values) apart;
}
  where
    root : Root
    root = inside.root

    wrapped : List ℤ
    wrapped = map (wrap view.kind.dtype) values

    is : written_memory memory view values ≡ set memory view.root (root_written root view values)
    is = ap (memory_written memory view values) inside.held
