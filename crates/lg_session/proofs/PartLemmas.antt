-- The items of an index, one after another.
use Rattle.std.proofs.Common.{◌≡◌, Bool, true, false, List, [], ◌∷◌, ◌++◌, Option, None, Some, Result, Ok, Err, refl, sym, ap, ◌∙◌, ℤ, if◌then◌else◌}
use Rattle.lg_shape.specs.declared.index.IndexItem.{IndexItem}
use Rattle.lg_shape.specs.declared.index.IndexItem.TheVariants.{At, Slice}
use Rattle.lg_tree.specs.Tree.{Tree, MaybeTree, some_tree, ItemTree, at, slice}
use Rattle.lg_tree.specs.View.{item_trees}
use Rattle.lg_meaning.specs.declared.fault.FaultKind.{FaultKind}
use Rattle.lg_meaning.specs.declared.fault.FaultKind.TheVariants.{TypeKind}
use Rattle.lg_meaning.specs.Faults.{from_part, from_both, or_fault}
use Rattle.lg_meaning.specs.Memory.{State}
use Rattle.lg_meaning.specs.Static.{Static, integer_of, optional_integer}
use Rattle.lg_meaning.specs.Indices as item
use Rattle.lg_meaning.specs.Indices.{ItemStatic, index_item, index_items}
use Rattle.lg_meaning.specs.Expressions.{optional_static, item_static, items_static}
use Rattle.lg_session.specs.Parts.{item_list, is_typed_with, IsRead, IsPart, IsItemRead, IsItem, AreItemsRead, AreItems}
use Rattle.lg_session.specs.Values.{value_static, Means, IsOutcome}
use Rattle.lg_operations.specs.declared.end.EvaluateEnd.{EvaluateEnd}
use Rattle.lg_operations.specs.declared.end.EvaluateEnd.TheVariants.{Fault, NoMemory}
use Rattle.lg_session.specs.declared.session.Session.{Session}
use Rattle.lg_session.specs.declared.value.Value.{Value}
use Rattle.lg_session.proofs.ExtentLemmas.{behind, behind_nothing, behind_all, behind_more}

-- ---- a part of a slice

pub part_read : (e : Tree) (state : State) (session : Session) (v : Value) (number : Option (Option ℤ)) → Means e state session v
    → or_fault number TypeKind ≡ optional_integer (Some (value_static v)) → IsRead (some_tree e) state number
part_read e state session v number m is = record {
  static = Some (value_static v);
  kind = ap (λ r. from_part r (λ a. Ok (Some a))) m.kind;
  same = sym is;
}

pub part_stop : (e : Tree) (state : State) (session : Session) (end : EvaluateEnd) → IsOutcome e state session (Err end) → IsPart (some_tree e) state (Err end)
part_stop e state session (Fault kind) h = ap (λ r. from_part r (λ a. Ok (Some a))) h
part_stop e state session NoMemory h = tt

-- ---- an item

pub at_read : (e : Tree) (state : State) (session : Session) (v : Value) (i : Option IndexItem) → Means e state session v
    → or_fault i TypeKind ≡ from_part (integer_of (value_static v)) (λ x. Ok (At x)) → IsItemRead (at e) state i
at_read e state session v i m is = record {
  static = item.at (value_static v);
  kind = ap (λ r. from_part r (λ a. Ok (item.at a))) m.kind;
  same = sym is;
}

pub at_stop : (e : Tree) (state : State) (session : Session) (end : EvaluateEnd) → IsOutcome e state session (Err end) → IsItem (at e) state (Err end)
at_stop e state session (Fault kind) h = ap (λ r. from_part r (λ a. Ok (item.at a))) h
at_stop e state session NoMemory h = tt

-- the slice of three parts
abbrev sliced : Option Static → Option Static → Option Static → Result ItemStatic FaultKind
sliced a b c = Ok (item.slice a b c)

module _ (start stop step : MaybeTree) (state : State) where
  pub slice_read : (x y z : Option (Option ℤ)) (i : Option IndexItem) → IsRead start state x → IsRead stop state y → IsRead step state z
      → or_fault i TypeKind ≡ from_part (or_fault x TypeKind) (λ p. from_both (or_fault y TypeKind) (or_fault z TypeKind) (λ q r. Ok (Slice p q r)))
      → IsItemRead (slice start stop step) state i
  slice_read x y z i a b c is = record {
    static = item.slice a.static b.static c.static;
    kind = ap (λ r. from_both r (optional_static stop state.names) (λ p q. from_part (optional_static step state.names) (sliced p q))) a.kind
        ∙ ap (λ r. from_part r (λ q. from_part (optional_static step state.names) (sliced a.static q))) b.kind
        ∙ ap (λ r. from_part r (sliced a.static b.static)) c.kind;
    same = (λ i. from_part (a.same i) (λ p. from_both (b.same i) (c.same i) (λ q r. Ok (Slice p q r)))) ∙ sym is;
  }

  pub start_stop : (end : EvaluateEnd) → IsPart start state (Err end) → IsItem (slice start stop step) state (Err end)
  start_stop (Fault kind) h = ap (λ r. from_both r (optional_static stop state.names) (λ p q. from_part (optional_static step state.names) (sliced p q))) h
  start_stop NoMemory h = tt

  pub stop_stop : (x : Option (Option ℤ)) (end : EvaluateEnd) → IsRead start state x → IsPart stop state (Err end) → IsItem (slice start stop step) state (Err end)
  stop_stop x (Fault kind) a h =
      ap (λ r. from_both r (optional_static stop state.names) (λ p q. from_part (optional_static step state.names) (sliced p q))) a.kind
      ∙ ap (λ r. from_part r (λ q. from_part (optional_static step state.names) (sliced a.static q))) h
  stop_stop x NoMemory a h = tt

  pub step_stop : (x y : Option (Option ℤ)) (end : EvaluateEnd) → IsRead start state x → IsRead stop state y → IsPart step state (Err end) → IsItem (slice start stop step) state (Err end)
  step_stop x y (Fault kind) a b h =
      ap (λ r. from_both r (optional_static stop state.names) (λ p q. from_part (optional_static step state.names) (sliced p q))) a.kind
      ∙ ap (λ r. from_part r (λ q. from_part (optional_static step state.names) (sliced a.static q))) b.kind
      ∙ ap (λ r. from_part r (sliced a.static b.static)) h
  step_stop x y NoMemory a b h = tt

-- ---- items one after another

-- what was read of the first items, and that an expression in them is none
abbrev pub read_so_far : Bool → List IndexItem → Option (List IndexItem)
read_so_far typed numbers = if typed then Some numbers else None

pub record Finds (all rest : List ItemTree) (state : State) (numbers : List IndexItem) (typed : Bool) : Type 0 where
  pub statics : List ItemStatic
  pub kind : items_static (item_trees all) state.names ≡ behind statics (items_static (item_trees rest) state.names)
  pub same : index_items statics ≡ or_fault (read_so_far typed numbers) TypeKind

abbrev joined : Result (List IndexItem) FaultKind → Result IndexItem FaultKind → Result (List IndexItem) FaultKind
joined a b = from_both a b (λ items item. Ok (items ++ item ∷ []))

index_behind : (xs : List ItemStatic) (x : ItemStatic) → index_items (xs ++ x ∷ []) ≡ joined (index_items xs) (index_item x)
index_behind [] x = alone (index_item x)
  where
    alone : (r : Result IndexItem FaultKind) → from_part r (λ i. Ok (i ∷ [])) ≡ joined (Ok []) r
    alone (Ok i) = refl
    alone (Err kind) = refl
index_behind (y ∷ xs) x =
    ap (λ r. from_both (index_item y) r (λ i is. Ok (i ∷ is))) (index_behind xs x) ∙ turned (index_item y) (index_items xs) (index_item x)
  where
    turned : (a : Result IndexItem FaultKind) (b : Result (List IndexItem) FaultKind) (c : Result IndexItem FaultKind)
        → from_both a (joined b c) (λ i is. Ok (i ∷ is)) ≡ joined (from_both a b (λ i is. Ok (i ∷ is))) c
    turned (Err kind) b c = refl
    turned (Ok i) (Err kind) c = refl
    turned (Ok i) (Ok is) (Err kind) = refl
    turned (Ok i) (Ok is) (Ok j) = refl

pub finds_nothing : (all : List ItemTree) (state : State) → Finds all all state [] true
finds_nothing all state = record { statics = []; kind = behind_nothing (items_static (item_trees all) state.names); same = refl }

module _ (all rest : List ItemTree) (i : ItemTree) (state : State) (numbers : List IndexItem) (typed : Bool) (found : Finds all (i ∷ rest) state numbers typed) where
  kind_more : (static : ItemStatic) → item_static i state.names ≡ Ok static
      → items_static (item_trees all) state.names ≡ behind (found.statics ++ static ∷ []) (items_static (item_trees rest) state.names)
  kind_more static is =
      found.kind
      ∙ ap (λ r. behind found.statics (from_both r (items_static (item_trees rest) state.names) (λ part parts. Ok (part ∷ parts)))) is
      ∙ behind_more found.statics static (items_static (item_trees rest) state.names)

  pub finds_more : (read : Option IndexItem) → IsItemRead i state read → Finds all rest state (numbers ++ item_list read) (is_typed_with typed read)
  finds_more read h = record {
    statics = found.statics ++ h.static ∷ [];
    kind = kind_more h.static h.kind;
    same = index_behind found.statics h.static ∙ (λ j. joined (found.same j) (h.same j)) ∙ by_test typed read;
  }
    where
      by_test : (t : Bool) (r : Option IndexItem) → joined (or_fault (read_so_far t numbers) TypeKind) (or_fault r TypeKind) ≡ or_fault (read_so_far (is_typed_with t r) (numbers ++ item_list r)) TypeKind
      by_test true (Some number) = refl
      by_test false (Some number) = refl
      by_test true None = refl
      by_test false None = refl

  pub items_end : (end : EvaluateEnd) → IsItem i state (Err end) → AreItems (item_trees all) state (Err end)
  items_end (Fault kind) h = found.kind ∙ ap (λ r. behind found.statics (from_both r (items_static (item_trees rest) state.names) (λ part parts. Ok (part ∷ parts)))) h
  items_end NoMemory h = tt

pub finds_all : (all : List ItemTree) (state : State) (numbers : List IndexItem) (typed : Bool) → Finds all [] state numbers typed → AreItemsRead (item_trees all) state (read_so_far typed numbers)
finds_all all state numbers typed found = record { statics = found.statics; kind = found.kind ∙ behind_all found.statics; same = found.same }
