-- Worlds: which roots there are, and which names stand for weak numbers or for views of roots. The
-- code and the definition are two worlds, and one stands for the other where no script can tell
-- them apart: same kinds, same numbers, and places shared alike. This project's own.
use Rattle.std.specs.Prelude.{◌≡◌, ◌↔◌, ◌<◌, ℕ, List, length, map, Option, None, Some, slice_get, slice_index_or, bytes_eq, if◌then◌else◌, ℤ, pos}
use Rattle.lg_meaning.specs.Memory.{Root, View, Bound, weak, array, numbers_of}

-- the root with each number
abbrev pub Roots : Type 0
Roots = ℕ → Option Root

-- what each name stands for
abbrev pub Names : Type 0
Names = List ℕ → Option Bound

-- a place of a root: the root's number, and the place in it
abbrev pub Place : Type 0
Place = ℕ × ℕ

abbrev pub number_at : Roots → Place → ℤ
number_at roots p = slice_index_or (numbers_of (roots p.0)) p.1 (pos 0)

-- the numbers at a view's places
abbrev pub shown_in : Roots → View → List ℤ
shown_in roots view = map (λ place. number_at roots (view.root, place)) view.places

-- the names after one of them was bound
abbrev pub put : Names → List ℕ → Bound → Names
put names w b v = if bytes_eq w v then Some b else names v

-- ---- two worlds

-- both views have this type, shape and right, and as many places
pub record SameKind (a b : View) : Type 0 where
  pub kind : a.kind ≡ b.kind
  pub count : length a.places ≡ length b.places

-- both are unbound, or the same weak number, or arrays of one kind
abbrev pub SameBound : Option Bound → Option Bound → Type 0
SameBound None None = Unit {0}
SameBound (Some (weak v)) (Some (weak w)) = v ≡ w
SameBound (Some (array a)) (Some (array b)) = SameKind a b
SameBound a b = ⊥

-- two places that two views have at one index
pub record AtOneIndex (a b : View) (p q : Place) : Type 0 where
  pub index : ℕ
  pub first_root : a.root ≡ p.0
  pub first : slice_get a.places index ≡ Some p.1
  pub second_root : b.root ≡ q.0
  pub second : slice_get b.places index ≡ Some q.1

-- two places that a name has at one index, in the one world and in the other
pub record Linked (m n : Names) (p q : Place) : Type 0 where
  pub name : List ℕ
  pub a : View
  pub b : View
  pub here : m name ≡ Some (array a)
  pub there : n name ≡ Some (array b)
  pub both : AtOneIndex a b p q

-- the names m over the roots A are as the names n over the roots B: each name stands for the same
-- kind of value; linked places hold one number; and two names share a place in the one world
-- exactly where they do in the other
pub record Stands (A B : Roots) (m n : Names) : Type 0 where
  pub same : (w : List ℕ) → SameBound (m w) (n w)
  pub shows : (p q : Place) → Linked m n p q → number_at A p ≡ number_at B q
  pub one : (p q r s : Place) → Linked m n p q → Linked m n r s → (p ≡ r) ↔ (q ≡ s)

-- a view shows what another one shows in the other world: each two places at one index are linked
pub record IsShown (m n : Names) (a b : View) : Type 0 where
  pub kind : SameKind a b
  pub linked : (p q : Place) → AtOneIndex a b p q → Linked m n p q

-- ---- one world

-- no place is twice among a view's places
abbrev pub NoRepeat : List ℕ → Type 0
NoRepeat places = (i j place : ℕ) → slice_get places i ≡ Some place → slice_get places j ≡ Some place
    → i ≡ j

-- the view's root is there and has the view's type and places
pub record IsInside (roots : Roots) (view : View) : Type 0 where
  pub root : Root
  pub held : roots view.root ≡ Some root
  pub dtype : root.dtype ≡ view.kind.dtype
  pub places : (index place : ℕ) → slice_get view.places index ≡ Some place
      → place < length root.numbers

-- each view that a name stands for is of a root that is there
abbrev pub AreInside : Roots → Names → Type 0
AreInside roots names = (w : List ℕ) (view : View) → names w ≡ Some (array view)
    → IsInside roots view
