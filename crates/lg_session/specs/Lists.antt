-- The weak numbers in a list.
use Rattle.std.specs.Prelude.{◌≡◌, ℕ, ◌+◌, List, ◌++◌, map, Result, Ok, Err, if◌then◌else◌}
use Rattle.lg_tree.specs.Tree.{ListTree, leaf, list, ListTrees, no_lists, more_lists}
use Rattle.lg_meaning.specs.declared.fault.FaultKind.{FaultKind}
use Rattle.lg_meaning.specs.declared.fault.FaultKind.TheVariants.{TypeKind}
use Rattle.lg_meaning.specs.Faults.{from_both}
use Rattle.lg_meaning.specs.Memory.{State}
use Rattle.lg_meaning.specs.Weak.{Weak, number_of}
use Rattle.lg_meaning.specs.Static.{Static, weaks}
use Rattle.lg_meaning.specs.Expressions.{list_static, list_numbers}
use Rattle.lg_operations.specs.Operations.{weak_of}
use Rattle.lg_session.specs.declared.lists.Members.{Members}
use Rattle.lg_operations.specs.declared.end.EvaluateEnd.{EvaluateEnd}
use Rattle.lg_operations.specs.declared.end.EvaluateEnd.TheVariants.{Fault, NoMemory}

-- how many expressions stand in nested lists
abbrev mutual
  pub leaves : ListTree → ℕ
  leaves (leaf e) = 1
  leaves (list ls) = all_leaves ls

  pub all_leaves : ListTrees → ℕ
  all_leaves no_lists = 0
  all_leaves (more_lists l ls) = leaves l + all_leaves ls

-- the weak numbers, or the fault that an array stands among them
abbrev pub gathered : Members → Result (List Weak) FaultKind
gathered members =
    if members.has_array then Err TypeKind else Ok (map weak_of members.weaks.items)

-- the members of two lists, one after the other
abbrev pub joined : Result (List Weak) FaultKind → Result (List Weak) FaultKind
    → Result (List Weak) FaultKind
joined a b = from_both a b (λ xs ys. Ok (xs ++ ys))

-- what stands in the list has no static fault, and was gathered behind what was there
pub record Gathers (l : ListTree) (state : State) (old new : Members) : Type 0 where
  pub parts : List Static
  pub kind : list_static l state.names ≡ Ok parts
  pub more : gathered new ≡ joined (gathered old) (weaks parts)
  pub same : (ws : List Weak) → weaks parts ≡ Ok ws
      → list_numbers l state.memory state.names ≡ map number_of ws

-- the answer of gathering
abbrev pub IsGathered : ListTree → State → Members → Members → Result (Unit {0}) EvaluateEnd
    → Type 0
IsGathered l state old new (Ok _) = Gathers l state old new
IsGathered l state old new (Err (Fault kind)) = list_static l state.names ≡ Err kind
IsGathered l state old new (Err NoMemory) = Unit {0}
