-- What stands in nested lists, list after list.
use Rattle.std.proofs.Common.{◌≡◌, ℕ, suc, ◌+◌, ◌-◌, ◌*◌, Bool, true, false, List, [], ◌∷◌, ◌++◌, length, map, Option, None, Some, Result, Ok, Err, IfSome, refl, sym, ap, ◌∙◌, option_map, append-nil, append_assoc, bytes_eq, if◌then◌else◌, arith}
use Rattle.std.specs.Cmp.Lexicographic.{bytes_decides}
use Rattle.std.proofs.lemmas.List.{map-append}
use Rattle.std.proofs.lemmas.Option.{same_Some}
use Rattle.lg_shape.specs.Shapes.{size_of}
use Rattle.lg_tree.specs.Tree.{Tree, ListTree, leaf, list, ListTrees, no_lists, more_lists}
use Rattle.lg_tree.specs.View.{list_trees}
use Rattle.lg_meaning.specs.declared.fault.FaultKind.{FaultKind}
use Rattle.lg_meaning.specs.Faults.{from_part, from_both}
use Rattle.lg_meaning.specs.Memory.{State}
use Rattle.lg_meaning.specs.Weak.{Weak, number_of}
use Rattle.lg_meaning.specs.Static.{Static, weak_value, weak_of, weaks}
use Rattle.lg_meaning.specs.Creation.{list_shape, row_shape, same_shape, count_of}
use Rattle.lg_meaning.specs.Expressions.{list_static, lists_static, list_numbers, lists_numbers}
use Rattle.lg_meaning.specs.Value.{only}
use Rattle.lg_operations.specs.Operations.{weak_of as weak_in}
use Rattle.lg_session.specs.Values.{value_static, Means}
use Rattle.lg_session.specs.Lists.{leaves, all_leaves, gathered, joined, Gathers, IsGathered}
use Rattle.lg_session.specs.ListShapes.{is_alike}
use Rattle.lg_session.specs.declared.lists.Members.{Members}
use Rattle.lg_operations.specs.declared.end.EvaluateEnd.{EvaluateEnd}
use Rattle.lg_operations.specs.declared.end.EvaluateEnd.TheVariants.{Fault, NoMemory}
use Rattle.lg_session.specs.declared.session.Session.{Session}
use Rattle.lg_session.specs.declared.value.Value.{Value}
use Rattle.lg_session.specs.declared.value.Value.TheVariants as value

-- ---- weak numbers of two lists

joined-assoc : (a b c : Result (List Weak) FaultKind) → joined (joined a b) c ≡ joined a (joined b c)
joined-assoc (Ok xs) (Ok ys) (Ok zs) = ap Ok (append_assoc xs ys zs)
joined-assoc (Ok xs) (Ok ys) (Err kind) = refl
joined-assoc (Ok xs) (Err kind) c = refl
joined-assoc (Err kind) b c = refl

joined-nothing : (a : Result (List Weak) FaultKind) → joined a (Ok []) ≡ a
joined-nothing (Ok xs) = ap Ok (append-nil xs)
joined-nothing (Err kind) = refl

nothing-joined : (a : Result (List Weak) FaultKind) → a ≡ joined (Ok []) a
nothing-joined (Ok xs) = refl
nothing-joined (Err kind) = refl

first_joined : (a : Result Weak FaultKind) (b c : Result (List Weak) FaultKind)
    → from_both a (joined b c) (λ w ws. Ok (w ∷ ws)) ≡ joined (from_both a b (λ w ws. Ok (w ∷ ws))) c
first_joined (Ok w) (Ok xs) (Ok ys) = refl
first_joined (Ok w) (Ok xs) (Err kind) = refl
first_joined (Ok w) (Err kind) c = refl
first_joined (Err kind) b c = refl

weaks-append : (p q : List Static) → weaks (p ++ q) ≡ joined (weaks p) (weaks q)
weaks-append [] q = nothing-joined (weaks q)
weaks-append (a ∷ p) q = ap (λ r. from_both (weak_of a) r (λ w ws. Ok (w ∷ ws))) (weaks-append p q) ∙ first_joined (weak_of a) (weaks p) (weaks q)

split_joined : (a b : Result (List Weak) FaultKind) (ws : List Weak) → joined a b ≡ Ok ws
    → (us : List Weak) × (vs : List Weak) × (a ≡ Ok us) × (b ≡ Ok vs) × (us ++ vs ≡ ws)
split_joined (Ok us) (Ok vs) ws e = (us, vs, refl, refl, (cc))
split_joined (Ok us) (Err kind) ws e = cc
split_joined (Err kind) b ws e = cc

-- ---- gathering

-- a list and those behind it
gathers_cons : (x : ListTree) (rest : ListTrees) (state : State) (now next new : Members) → Gathers x state now next → Gathers (list rest) state next new
    → Gathers (list (more_lists x rest)) state now new
gathers_cons x rest state now next new g h = record {
  parts = g.parts ++ h.parts;
  kind = ap (λ r. from_both r (lists_static rest state.names) (λ xs ys. Ok (xs ++ ys))) g.kind ∙ ap (λ r. from_part r (λ ys. Ok (g.parts ++ ys))) h.kind;
  more = h.more ∙ ap (λ r. joined r (weaks h.parts)) g.more ∙ joined-assoc (gathered now) (weaks g.parts) (weaks h.parts)
      ∙ ap (joined (gathered now)) (sym (weaks-append g.parts h.parts));
  same = same;
}
  where
    same : (ws : List Weak) → weaks (g.parts ++ h.parts) ≡ Ok ws → list_numbers (list (more_lists x rest)) state.memory state.names ≡ map number_of ws
    same ws e =
        let s = split_joined (weaks g.parts) (weaks h.parts) ws (sym (weaks-append g.parts h.parts) ∙ e) in
        ap (λ l. l ++ lists_numbers rest state.memory state.names) (g.same s.0 s.2) ∙ ap (λ l. map number_of s.0 ++ l) (h.same s.1 s.3)
        ∙ sym (map-append number_of s.0 s.1) ∙ ap (map number_of) s.4

gathers_none : (state : State) (now : Members) → Gathers (list no_lists) state now now
gathers_none state now = record { parts = []; kind = refl; more = sym (joined-nothing (gathered now)); same = λ ws e. ap (map number_of) (none ws e) }
  where
    none : (ws : List Weak) → weaks [] ≡ Ok ws → [] ≡ ws
    none ws e = cc

-- what the lists that are left give is what all of them give
pub record Carries (all rest : List ListTree) (state : State) (old now : Members) : Type 0 where
  pub whole : (new : Members) → Gathers (list (list_trees rest)) state now new → Gathers (list (list_trees all)) state old new
  pub fault : (kind : FaultKind) → lists_static (list_trees rest) state.names ≡ Err kind → lists_static (list_trees all) state.names ≡ Err kind

pub carries_start : (all : List ListTree) (state : State) (old : Members) → Carries all all state old old
carries_start all state old = record { whole = λ new g. g; fault = λ kind e. e }

pub carries_more : (all rest : List ListTree) (x : ListTree) (state : State) (old now next : Members) → Carries all (x ∷ rest) state old now → Gathers x state now next
    → Carries all rest state old next
carries_more all rest x state old now next c g = record {
  whole = λ new h. c.whole new (gathers_cons x (list_trees rest) state now next new g h);
  fault = λ kind e. c.fault kind (ap (λ r. from_both r (lists_static (list_trees rest) state.names) (λ xs ys. Ok (xs ++ ys))) g.kind ∙ ap (λ r. from_part r (λ ys. Ok (g.parts ++ ys))) e);
}

pub carries_end : (all : List ListTree) (state : State) (old now : Members) → Carries all [] state old now → Gathers (list (list_trees all)) state old now
carries_end all state old now c = c.whole now (gathers_none state now)

pub carries_stop : (all rest : List ListTree) (x : ListTree) (state : State) (old now : Members) (kind : FaultKind) → Carries all (x ∷ rest) state old now
    → list_static x state.names ≡ Err kind → lists_static (list_trees all) state.names ≡ Err kind
carries_stop all rest x state old now kind c e = c.fault kind (ap (λ r. from_both r (lists_static (list_trees rest) state.names) (λ xs ys. Ok (xs ++ ys))) e)

pub gather_ends : (l : ListTree) (all rest : List ListTree) (x : ListTree) (state : State) (old now next : Members) (end : EvaluateEnd) → l ≡ list (list_trees all)
    → Carries all (x ∷ rest) state old now → IsGathered x state now next (Err end) → IsGathered l state old next (Err end)
gather_ends l all rest x state old now next (Fault kind) is c h = ap (λ t. list_static t state.names) is ∙ carries_stop all rest x state old now kind c h
gather_ends l all rest x state old now next NoMemory is c h = tt

-- one expression
pub leaf_gathered : (e : Tree) (state : State) (session : Session) (v : Value) (old new : Members) → Means e state session v
    → gathered new ≡ joined (gathered old) (weaks (value_static v ∷ [])) → Gathers (leaf e) state old new
leaf_gathered e state session v old new m more = record {
  parts = value_static v ∷ [];
  kind = ap (λ r. from_part r (λ a. Ok (a ∷ []))) m.kind;
  more = more;
  same = λ ws h. number v m ws h;
}
  where
    first : (x : Weak) (ws : List Weak) → weaks (weak_value x ∷ []) ≡ Ok ws → number_of x ∷ [] ≡ map number_of ws
    first x ws h = let is : x ∷ [] ≡ ws = cc in ap (map number_of) is

    number : (v : Value) → Means e state session v → (ws : List Weak) → weaks (value_static v ∷ []) ≡ Ok ws → list_numbers (leaf e) state.memory state.names ≡ map number_of ws
    number (value.Weak w) m ws h = ap (λ x. only x ∷ []) m.same ∙ first (weak_in w) ws h
    number (value.Shown view) m ws h = cc
    number (value.Fresh fresh) m ws h = cc

-- ---- shapes

both_same : (a b : Option (List ℕ)) (s : List ℕ) → same_shape a b ≡ Some s → (a ≡ Some s) × (b ≡ Some s)
both_same None b s e = cc
both_same (Some x) None s e = cc
both_same (Some x) (Some y) s e = by_test (bytes_eq x y) refl e
  where
    by_test : (t : Bool) → bytes_eq x y ≡ t → (if t then Some x else None) ≡ Some s → (Some x ≡ Some s) × (Some y ≡ Some s)
    by_test true is h = (h, ap Some (sym ((bytes_decides x y).0 is)) ∙ h)
    by_test false is h = cc

size_of-cons : (n : ℕ) (s : List ℕ) → size_of (n ∷ s) ≡ n * size_of s
size_of-cons n s = let e : n - 0 ≡ n = omega arith in ap (λ m. m * size_of s) e

mutual
  shape_leaves : (l : ListTree) (s : List ℕ) → list_shape l ≡ Some s → leaves l ≡ size_of s
  shape_leaves (leaf e) s h = ap size_of (same_Some [] s h)
  shape_leaves (list ls) s h = inner (λ r is. row_leaves ls r is) (row_shape ls) refl h
    where
      inner : ((r : List ℕ) → row_shape ls ≡ Some r → all_leaves ls ≡ count_of ls * size_of r)
          → (r : Option (List ℕ)) → row_shape ls ≡ r → option_map (λ shape. count_of ls ∷ shape) r ≡ Some s → leaves (list ls) ≡ size_of s
      inner rows None is e = cc
      inner rows (Some r) is e = rows r is ∙ sym (size_of-cons (count_of ls) r) ∙ ap size_of (same_Some (count_of ls ∷ r) s e)

  row_leaves : (ls : ListTrees) (s : List ℕ) → row_shape ls ≡ Some s → all_leaves ls ≡ count_of ls * size_of s
  row_leaves no_lists s h = omega arith
  row_leaves (more_lists l no_lists) s h = let e : leaves l ≡ size_of s = shape_leaves l s h in omega arith
  row_leaves (more_lists l (more_lists next ls)) s h =
      let both = both_same (list_shape l) (row_shape (more_lists next ls)) s h in
      let here : leaves l ≡ size_of s = shape_leaves l s both.0 in
      let rest : all_leaves (more_lists next ls) ≡ count_of (more_lists next ls) * size_of s = row_leaves (more_lists next ls) s both.1 in
      ap (λ n. n + all_leaves (more_lists next ls)) here ∙ ap (λ n. size_of s + n) rest ∙ times_more (count_of (more_lists next ls)) (size_of s)
    where
      times_more : (n k : ℕ) → k + n * k ≡ suc n * k
      times_more n k = grind arith

pub shape_full : {X : Type 0} (f : X → List ℕ) (l : ListTree) (count before : ℕ) (shape : Option X) → option_map f shape ≡ list_shape l → count ≡ before + leaves l → before ≡ 0
    → IfSome shape (λ x. count ≡ size_of (f x))
shape_full f l count before None is all none = tt
shape_full f l count before (Some x) is all none = let e : leaves l ≡ size_of (f x) = shape_leaves l (f x) (sym is) in omega arith

-- the shape of the first list, and of the rest if they are alike
abbrev pub rest_shape : List ℕ → List ListTree → Option (List ℕ)
rest_shape s [] = Some s
rest_shape s (l ∷ ls) = same_shape (Some s) (row_shape (list_trees (l ∷ ls)))

same_twice : (s : List ℕ) (r : Option (List ℕ)) → same_shape (Some s) (same_shape (Some s) r) ≡ same_shape (Some s) r
same_twice s None = refl
same_twice s (Some r) = by_test (bytes_eq s r)
  where
    same_self : bytes_eq s s ≡ true
    same_self = (bytes_decides s s).1 refl

    by_test : (t : Bool) → same_shape (Some s) (if t then Some s else None) ≡ (if t then Some s else None)
    by_test true = ap (λ (t : Bool). if t then Some s else None) same_self
    by_test false = refl

-- another list of the same shape
pub rest_more : (s : List ℕ) (l : ListTree) (ls : List ListTree) → is_alike (list_shape l) s ≡ true → rest_shape s (l ∷ ls) ≡ rest_shape s ls
rest_more s l ls h = by_rest ls (has_shape (list_shape l) h)
  where
    has_shape : (o : Option (List ℕ)) → is_alike o s ≡ true → o ≡ Some s
    has_shape None e = cc
    has_shape (Some r) e = ap Some ((bytes_decides r s).0 e)

    by_rest : (ls : List ListTree) → list_shape l ≡ Some s → rest_shape s (l ∷ ls) ≡ rest_shape s ls
    by_rest [] is = ap (same_shape (Some s)) is ∙ ap (λ (t : Bool). if t then Some s else None) ((bytes_decides s s).1 refl)
    by_rest (next ∷ ls) is = ap (λ r. same_shape (Some s) (same_shape r (row_shape (list_trees (next ∷ ls))))) is ∙ same_twice s (row_shape (list_trees (next ∷ ls)))

-- a list of another shape, or of none
pub rest_differs : (s : List ℕ) (l : ListTree) (ls : List ListTree) → is_alike (list_shape l) s ≡ false → rest_shape s (l ∷ ls) ≡ None
rest_differs s l ls h = none (rest_shape s (l ∷ ls)) refl
  where
    first_of : (ls : List ListTree) → row_shape (list_trees (l ∷ ls)) ≡ Some s → list_shape l ≡ Some s
    first_of [] e = e
    first_of (next ∷ ls) e = (both_same (list_shape l) (row_shape (list_trees (next ∷ ls))) s e).0

    clash : (b : Bool) → b ≡ false → b ≡ true → ⊥
    clash b x y = cc

    none : (o : Option (List ℕ)) → rest_shape s (l ∷ ls) ≡ o → rest_shape s (l ∷ ls) ≡ None
    none None is = is
    none (Some r) is =
        let both = both_same (Some s) (row_shape (list_trees (l ∷ ls))) r is in
        let row : row_shape (list_trees (l ∷ ls)) ≡ Some s = both.1 ∙ sym both.0 in
        let equal : is_alike (list_shape l) s ≡ true = ap (λ o. is_alike o s) (first_of ls row) ∙ (bytes_decides s s).1 refl in
        absurd (clash (is_alike (list_shape l) s) h equal)

-- lists of which the first has a shape
pub first_shape : (s : List ℕ) (l : ListTree) (ls : List ListTree) → list_shape l ≡ Some s → row_shape (list_trees (l ∷ ls)) ≡ rest_shape s ls
first_shape s l [] is = is
first_shape s l (next ∷ ls) is = ap (λ r. same_shape r (row_shape (list_trees (next ∷ ls)))) is

-- lists of which the first has none
pub first_none : (l : ListTree) (ls : List ListTree) → list_shape l ≡ None → row_shape (list_trees (l ∷ ls)) ≡ None
first_none l [] is = is
first_none l (next ∷ ls) is = ap (λ r. same_shape r (row_shape (list_trees (next ∷ ls)))) is

pub count-trees : (ls : List ListTree) → count_of (list_trees ls) ≡ length ls
count-trees [] = refl
count-trees (l ∷ ls) = ap suc (count-trees ls)

-- the count of what was gathered, list after list
pub count_more : (x : ListTree) (rest : List ListTree) (before now next : ℕ) → now + all_leaves (list_trees (x ∷ rest)) ≡ before → next ≡ now + leaves x
    → next + all_leaves (list_trees rest) ≡ before
count_more x rest before now next h e = omega arith

pub count_end : (rest : List ListTree) (now before : ℕ) → rest ≡ [] → now + all_leaves (list_trees rest) ≡ before → now ≡ before
count_end rest now before none h = let e : all_leaves (list_trees rest) ≡ 0 = ap (λ l. all_leaves (list_trees l)) none in omega arith
