-- Scripts as trees. The language is this project's own.
use Rattle.std.specs.Prelude.{ℕ, Bool, List, [], ◌∷◌, Option}
use Rattle.lg_elem.specs.declared.dtype.DType.{DType}
use Rattle.lg_elem.specs.declared.kinds.Compare.{Compare}
use Rattle.lg_tree.specs.declared.kinds.Arith.{Arith}
use Rattle.lg_tree.specs.declared.kinds.Red.{Red}
use Rattle.lg_tree.specs.declared.kinds.ScanCall.{ScanCall}

mutual
  -- an expression
  pub data Tree : Type 0 where
    number : ℕ → Tree
    truth : Bool → Tree
    name : List ℕ → Tree
    neg : Tree → Tree
    invert : Tree → Tree
    arith : Arith → Tree → Tree → Tree
    -- `a @ b`
    matmul : Tree → Tree → Tree
    compare : Compare → Tree → Tree → Tree
    index : Tree → ItemTrees → Tree
    full : ShapeTree → Tree → Option DType → Tree
    zeros : ShapeTree → Option DType → Tree
    ones : ShapeTree → Option DType → Tree
    arange : MaybeTree → Tree → Option DType → Tree
    array : ListTree → Option DType → Tree
    abs : Tree → Tree
    minimum : Tree → Tree → Tree
    maximum : Tree → Tree → Tree
    -- `where(condition, a, b)`
    choose : Tree → Tree → Tree → Tree
    -- the last part is the axis
    reduce : Red → Tree → MaybeTree → Tree
    -- an array, the indices and the axis
    take : Tree → Tree → MaybeTree → Tree
    transpose : Tree → MaybeShape → Tree
    broadcast_to : Tree → ShapeTree → Tree
    stencil : Tree → ListTree → Tree
    copy : Tree → Tree
    flatten : Tree → Tree
    as_type : Tree → DType → Tree
    reshape : Tree → ShapeTree → Tree
    -- the name of the operation, and its operands
    apply : List ℕ → Tree → Tree → Tree
    -- the last part is the axis
    scan : ScanCall → Tree → MaybeTree → Tree

  -- an expression that may be left out
  pub data MaybeTree : Type 0 where
    no_tree : MaybeTree
    some_tree : Tree → MaybeTree

  pub data Trees : Type 0 where
    no_trees : Trees
    more_trees : Tree → Trees → Trees

  -- the extents or the axes of an array
  pub data ShapeTree : Type 0 where
    one : Tree → ShapeTree
    tuple : Trees → ShapeTree

  -- a shape that may be left out
  pub data MaybeShape : Type 0 where
    no_shape : MaybeShape
    some_shape : ShapeTree → MaybeShape

  -- one item of an index
  pub data ItemTree : Type 0 where
    at : Tree → ItemTree
    -- start, stop and step
    slice : MaybeTree → MaybeTree → MaybeTree → ItemTree
    -- `None`
    new_axis : ItemTree
    -- `...`
    ellipsis : ItemTree

  pub data ItemTrees : Type 0 where
    no_items : ItemTrees
    more_items : ItemTree → ItemTrees → ItemTrees

  -- a list of expressions, or one expression in it
  pub data ListTree : Type 0 where
    leaf : Tree → ListTree
    list : ListTrees → ListTree

  -- what stands in a list
  pub data ListTrees : Type 0 where
    no_lists : ListTrees
    more_lists : ListTree → ListTrees → ListTrees

mutual
  pub data StatementTree : Type 0 where
    bind : List ℕ → Tree → StatementTree
    -- `w += e`
    update : List ℕ → Arith → Tree → StatementTree
    -- `w[items] = e`
    put : List ℕ → ItemTrees → Tree → StatementTree
    -- `w[items] += e`
    update_at : List ℕ → ItemTrees → Arith → Tree → StatementTree
    print : Tree → StatementTree
    -- `for w in range(from, to):` and the lines of its block
    loop : List ℕ → MaybeTree → Tree → LineTrees → StatementTree
    -- `w = load(file)`
    load : List ℕ → List ℕ → StatementTree
    -- `save(file, e)`
    save : List ℕ → Tree → StatementTree

  -- lines one after the other: the number of the first, its statement, and the lines behind it
  pub data LineTrees : Type 0 where
    no_lines : LineTrees
    more_lines : ℕ → StatementTree → LineTrees → LineTrees

-- a statement and the number of its line
pub record LineTree : Type 0 where
  pub number : ℕ
  pub statement : StatementTree

-- the same lines
abbrev pub line_trees : List LineTree → LineTrees
line_trees [] = no_lines
line_trees (l ∷ ls) = more_lines l.number l.statement (line_trees ls)
