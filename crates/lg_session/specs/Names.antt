-- What the names of the code stand for, as the definitions see it.
use Rattle.std.specs.Prelude.{◌≡◌, ℕ, ◌==◌, Bool, false, List, Option, None, Some, option_map, Vec}
use Rattle.std.specs.BTreeMap.{get_by}
use Rattle.std.specs.Ordering.{nat_cmp}
use Rattle.std.specs.Cmp.Lexicographic.{slice_cmp}
use Rattle.std.specs.declared.alloc.Global.{Global}
use Rattle.lg_store.specs.declared.view.View.{View as CodeView}
use Rattle.lg_meaning.specs.Memory as memory
use Rattle.lg_meaning.specs.Memory.{Bound, weak}
use Rattle.lg_operations.specs.Operations.{weak_of}
use Rattle.lg_operations.specs.Views.{view_of}
use Rattle.lg_session.specs.declared.names.Bound.{Bound as CodeBound}
use Rattle.lg_session.specs.declared.names.Bound.TheVariants.{Weak, Array}
use Rattle.lg_session.specs.declared.names.Names.{Names}

abbrev pub bound_of : CodeBound → Bound
bound_of (Weak w) = weak (weak_of w)
bound_of (Array view) = memory.array (view_of view)

-- what a name stands for, if it is bound
abbrev pub bound_at : Names → List ℕ → Option CodeBound
bound_at names w = get_by (λ (key : Vec ℕ Global). slice_cmp nat_cmp w key.items) names.bounds

-- the same in the words of the definitions
abbrev pub environment : Names → List ℕ → Option Bound
environment names w = option_map bound_of (bound_at names w)

-- the root that this is a view of, if it is one
abbrev pub viewed_root : CodeBound → Option ℕ
viewed_root (Weak w) = None
viewed_root (Array view) = Some view.root

-- whether this is a view of the root
abbrev pub is_of : ℕ → CodeBound → Bool
is_of root (Weak w) = false
is_of root (Array view) = view.root == root

-- some name stands for a view of the root
pub record IsReached (names : Names) (root : ℕ) : Type 0 where
  pub name : List ℕ
  pub view : CodeView
  pub bound : bound_at names name ≡ Some (Array view)
  pub of_root : view.root ≡ root
