-- Values one after another: as whole numbers, and as the extents of a shape.
use Rattle.std.proofs.Common.{◌≡◌, List, [], ◌∷◌, ◌++◌, Result, Ok, Err, refl, sym, ap, ◌∙◌, append-nil, append_assoc, ℤ}
use Rattle.lg_tree.specs.Tree.{Tree, Trees, more_trees, ShapeTree, tuple}
use Rattle.lg_meaning.specs.declared.fault.FaultKind.{FaultKind}
use Rattle.lg_meaning.specs.Faults.{from_part, from_both}
use Rattle.lg_meaning.specs.Memory.{Names, State}
use Rattle.lg_meaning.specs.Static.{Static, integer_of, integers}
use Rattle.lg_meaning.specs.Expressions.{static_of, shape_static, trees_static}
use Rattle.lg_session.specs.Values.{IsOutcome, AreExtents}
use Rattle.lg_session.specs.declared.session.Session.{Session}
use Rattle.lg_operations.specs.declared.end.EvaluateEnd.{EvaluateEnd}
use Rattle.lg_operations.specs.declared.end.EvaluateEnd.TheVariants.{Fault, NoMemory}

-- these, and what comes behind them
abbrev pub behind : {A : Type 0} → List A → Result (List A) FaultKind → Result (List A) FaultKind
behind xs r = from_part r (λ ys. Ok (xs ++ ys))

pub behind_nothing : {A : Type 0} (r : Result (List A) FaultKind) → r ≡ behind [] r
behind_nothing (Ok ys) = refl
behind_nothing (Err kind) = refl

pub behind_all : {A : Type 0} (xs : List A) → behind xs (Ok []) ≡ Ok xs
behind_all xs = ap Ok (append-nil xs)

pub behind_more : {A : Type 0} (xs : List A) (x : A) (r : Result (List A) FaultKind) → behind xs (from_part r (λ ys. Ok (x ∷ ys))) ≡ behind (xs ++ x ∷ []) r
behind_more xs x (Ok ys) = ap Ok (sym (append_assoc xs (x ∷ []) ys))
behind_more xs x (Err kind) = refl

-- one more number
pub integer_more : (xs : List ℤ) (a : Static) (rest : List Static) (x : ℤ) → integer_of a ≡ Ok x → behind xs (integers (a ∷ rest)) ≡ behind (xs ++ x ∷ []) (integers rest)
integer_more xs a rest x e = ap (λ r. behind xs (from_both r (integers rest) (λ y ys. Ok (y ∷ ys)))) e ∙ behind_more xs x (integers rest)

pub integer_stop : (xs : List ℤ) (a : Static) (rest : List Static) (kind : FaultKind) → integer_of a ≡ Err kind → behind xs (integers (a ∷ rest)) ≡ Err kind
integer_stop xs a rest kind e = ap (λ r. behind xs (from_both r (integers rest) (λ y ys. Ok (y ∷ ys)))) e

-- one more expression
pub tree_more : (xs : List Static) (e : Tree) (rest : Trees) (names : Names) (a : Static) → static_of e names ≡ Ok a
    → behind xs (trees_static (more_trees e rest) names) ≡ behind (xs ++ a ∷ []) (trees_static rest names)
tree_more xs e rest names a h = ap (λ r. behind xs (from_both r (trees_static rest names) (λ y ys. Ok (y ∷ ys)))) h ∙ behind_more xs a (trees_static rest names)

pub tree_stop : (xs : List Static) (e : Tree) (rest : Trees) (names : Names) (kind : FaultKind) → static_of e names ≡ Err kind
    → behind xs (trees_static (more_trees e rest) names) ≡ Err kind
tree_stop xs e rest names kind h = ap (λ r. behind xs (from_both r (trees_static rest names) (λ y ys. Ok (y ∷ ys)))) h

-- the first static fault of a tuple
pub extents_stop : (s : ShapeTree) (ts : Trees) (xs : List Static) (e : Tree) (rest : Trees) (state : State) (session : Session) (end : EvaluateEnd) → s ≡ tuple ts
    → trees_static ts state.names ≡ behind xs (trees_static (more_trees e rest) state.names) → IsOutcome e state session (Err end) → AreExtents s state (Err end)
extents_stop s ts xs e rest state session (Fault kind) is found h = ap (λ t. shape_static t state.names) is ∙ found ∙ tree_stop xs e rest state.names kind h
extents_stop s ts xs e rest state session NoMemory is found h = tt
