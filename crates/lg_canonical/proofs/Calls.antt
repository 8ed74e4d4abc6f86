-- The text of calls.
use Rattle.std.proofs.Common.{◌≡◌, ℕ, Option, List, [], ◌∷◌, ◌++◌, codes, refl, sym, subst}
use Rattle.std.specs.Prelude.{⊤}
use Rattle.lg_elem.specs.declared.dtype.DType.{DType}
use Rattle.lg_tree.specs.declared.kinds.Red.{Red}
use Rattle.lg_tree.specs.declared.kinds.Red.TheVariants.{Sum, Prod, Min, Max, Any, All}
use Rattle.lg_tree.specs.declared.kinds.ScanCall.{ScanCall}
use Rattle.lg_tree.specs.declared.kinds.ScanCall.TheVariants.{CumSum, CumProd, ArgMin, ArgMax}
use Rattle.lg_tree.specs.Tree.{Tree, full, zeros, ones, arange, array, abs, minimum, maximum, choose, reduce, take, transpose, broadcast_to, stencil, apply, scan, MaybeTree, no_tree, some_tree, ShapeTree, MaybeShape, no_shape, some_shape, ListTree}
use Rattle.lg_lex.specs.Lexical.{IsWord, BeginsApart}
use Rattle.lg_lex.specs.declared.tokens.TokenKind.TheVariants.{Word, Comma, LeftParenthesis, RightParenthesis}
use Rattle.lg_text.specs.Text.{text, is_operator, enclosed, call_text}
use Rattle.lg_text.specs.Words.{red_text, scan_text}
use Rattle.lg_parse.specs.declared.words.Function.{Function}
use Rattle.lg_parse.specs.declared.words.Function.TheVariants.{Full, Zeros, Ones, Arange, Array, Abs, Minimum, Maximum, Where, Reduce, Take, Transpose, BroadcastTo, Stencil, Apply, Scan}
use Rattle.lg_parse.specs.Terminal.{function, sign}
use Rattle.lg_parse.specs.Terminal as t
use Rattle.lg_parse.specs.Lexed.{terminal_from}
use Rattle.lg_parse.specs.Expressions.{postfix, bare as of_atom, a_call, SpellsCall, a_full, some_zeros, some_ones, a_range_to, a_range, an_array, an_abs, a_minimum, a_maximum, a_choice, a_reduction, a_scan, a_take, a_reversal, a_transpose, a_broadcast, a_stencil, an_application}
use Rattle.lg_canonical.proofs.Running.{Runs, then, no_text, a_word}
use Rattle.lg_canonical.proofs.Reserved.{the_full, the_zeros, the_ones, the_arange, the_array, the_abs, the_minimum, the_maximum, the_where, the_take, the_transpose, the_broadcast_to, the_stencil, the_apply, red_runs, scan_runs}
use Rattle.lg_canonical.proofs.Pieces.{Piece, Written, StartsPlain, Texts, then_ending, type_ending, bare, in_call, listed_runs}
use Rattle.lg_canonical.proofs.Members.{MaybeTexts, axis_ending, ShapePiece, ListPiece}

-- a call of a function
pub call_texts : (f : Function) (w : List ℕ) (e : Tree) (inside : List ℕ) → text e ≡ call_text w inside → enclosed (is_operator e) (text e) ≡ text e → StartsPlain (text e) → Runs BeginsApart w (λ ts. function f ∷ ts) → Piece (λ ts rest. SpellsCall f ts rest e) inside → Texts e
call_texts f w e inside is same plain runs p = bare e same plain (subst (λ (bs : List ℕ). Written postfix e bs) (sym is) (record {
  put = λ rest. function f ∷ sign LeftParenthesis ∷ p.put (sign RightParenthesis ∷ rest);
  spelled = λ rest. of_atom (a_call (p.spelled (sign RightParenthesis ∷ rest)));
  runs = then runs (in_call p.runs) (λ rest q. refl);
}))

pub full_texts : (s : ShapeTree) (a : Tree) (d : Option DType) → ShapePiece s → Texts a → Texts (full s a d)
full_texts s a d p x =
    let e = type_ending d in
    call_texts Full (codes "full") (full s a d) _ refl refl (λ rest. refl) the_full (record {
      put = λ rest. p.put (sign Comma ∷ x.whole.put (e.piece.put rest));
      spelled = λ rest. a_full (p.spelled (sign Comma ∷ x.whole.put (e.piece.put rest))) (x.whole.spelled (e.piece.put rest)) (e.piece.spelled rest);
      runs = listed_runs p.runs (then_ending x.whole.runs e);
    })

pub zeros_texts : (s : ShapeTree) (d : Option DType) → ShapePiece s → Texts (zeros s d)
zeros_texts s d p =
    let e = type_ending d in
    call_texts Zeros (codes "zeros") (zeros s d) _ refl refl (λ rest. refl) the_zeros (record {
      put = λ rest. p.put (e.piece.put rest);
      spelled = λ rest. some_zeros (p.spelled (e.piece.put rest)) (e.piece.spelled rest);
      runs = then_ending p.runs e;
    })

pub ones_texts : (s : ShapeTree) (d : Option DType) → ShapePiece s → Texts (ones s d)
ones_texts s d p =
    let e = type_ending d in
    call_texts Ones (codes "ones") (ones s d) _ refl refl (λ rest. refl) the_ones (record {
      put = λ rest. p.put (e.piece.put rest);
      spelled = λ rest. some_ones (p.spelled (e.piece.put rest)) (e.piece.spelled rest);
      runs = then_ending p.runs e;
    })

pub range_to_texts : (a : Tree) (d : Option DType) → Texts a → Texts (arange no_tree a d)
range_to_texts a d x =
    let e = type_ending d in
    call_texts Arange (codes "arange") (arange no_tree a d) _ refl refl (λ rest. refl) the_arange (record {
      put = λ rest. x.whole.put (e.piece.put rest);
      spelled = λ rest. a_range_to (x.whole.spelled (e.piece.put rest)) (e.piece.spelled rest);
      runs = then_ending x.whole.runs e;
    })

pub range_texts : (a b : Tree) (d : Option DType) → Texts a → Texts b → Texts (arange (some_tree a) b d)
range_texts a b d x y =
    let e = type_ending d in
    call_texts Arange (codes "arange") (arange (some_tree a) b d) _ refl refl (λ rest. refl) the_arange (record {
      put = λ rest. x.whole.put (sign Comma ∷ y.whole.put (e.piece.put rest));
      spelled = λ rest. a_range (x.whole.spelled (sign Comma ∷ y.whole.put (e.piece.put rest))) (y.whole.spelled (e.piece.put rest)) (e.piece.spelled rest);
      runs = listed_runs x.whole.runs (then_ending y.whole.runs e);
    })

pub array_texts : (l : ListTree) (d : Option DType) → ListPiece l → Texts (array l d)
array_texts l d p =
    let e = type_ending d in
    call_texts Array (codes "array") (array l d) _ refl refl (λ rest. refl) the_array (record {
      put = λ rest. p.put (e.piece.put rest);
      spelled = λ rest. an_array (p.spelled (e.piece.put rest)) (e.piece.spelled rest);
      runs = then_ending p.runs e;
    })

pub abs_texts : (a : Tree) → Texts a → Texts (abs a)
abs_texts a x = call_texts Abs (codes "abs") (abs a) _ refl refl (λ rest. refl) the_abs (record {
  put = x.whole.put;
  spelled = λ rest. an_abs (x.whole.spelled rest);
  runs = x.whole.runs;
})

pub minimum_texts : (a b : Tree) → Texts a → Texts b → Texts (minimum a b)
minimum_texts a b x y = call_texts Minimum (codes "minimum") (minimum a b) _ refl refl (λ rest. refl) the_minimum (record {
  put = λ rest. x.whole.put (sign Comma ∷ y.whole.put rest);
  spelled = λ rest. a_minimum (x.whole.spelled (sign Comma ∷ y.whole.put rest)) (y.whole.spelled rest);
  runs = listed_runs x.whole.runs y.whole.runs;
})

pub maximum_texts : (a b : Tree) → Texts a → Texts b → Texts (maximum a b)
maximum_texts a b x y = call_texts Maximum (codes "maximum") (maximum a b) _ refl refl (λ rest. refl) the_maximum (record {
  put = λ rest. x.whole.put (sign Comma ∷ y.whole.put rest);
  spelled = λ rest. a_maximum (x.whole.spelled (sign Comma ∷ y.whole.put rest)) (y.whole.spelled rest);
  runs = listed_runs x.whole.runs y.whole.runs;
})

pub choice_texts : (c a b : Tree) → Texts c → Texts a → Texts b → Texts (choose c a b)
choice_texts c a b z x y = call_texts Where (codes "where") (choose c a b) _ refl refl (λ rest. refl) the_where (record {
  put = λ rest. z.whole.put (sign Comma ∷ x.whole.put (sign Comma ∷ y.whole.put rest));
  spelled = λ rest. a_choice (z.whole.spelled (sign Comma ∷ x.whole.put (sign Comma ∷ y.whole.put rest))) (x.whole.spelled (sign Comma ∷ y.whole.put rest)) (y.whole.spelled rest);
  runs = listed_runs z.whole.runs (listed_runs x.whole.runs y.whole.runs);
})

red_plain : (r : Red) (a : Tree) (axis : MaybeTree) → StartsPlain (text (reduce r a axis))
red_plain Sum a axis rest = refl
red_plain Prod a axis rest = refl
red_plain Min a axis rest = refl
red_plain Max a axis rest = refl
red_plain Any a axis rest = refl
red_plain All a axis rest = refl

pub reduce_texts : (r : Red) (a : Tree) (axis : MaybeTree) → Texts a → MaybeTexts axis → Texts (reduce r a axis)
reduce_texts r a axis x y =
    let e = axis_ending axis y in
    call_texts (Reduce r) (red_text r) (reduce r a axis) _ refl refl (red_plain r a axis) (red_runs r) (record {
      put = λ rest. x.whole.put (e.piece.put rest);
      spelled = λ rest. a_reduction r (x.whole.spelled (e.piece.put rest)) (e.piece.spelled rest);
      runs = then_ending x.whole.runs e;
    })

scan_plain : (c : ScanCall) (a : Tree) (axis : MaybeTree) → StartsPlain (text (scan c a axis))
scan_plain CumSum a axis rest = refl
scan_plain CumProd a axis rest = refl
scan_plain ArgMin a axis rest = refl
scan_plain ArgMax a axis rest = refl

pub scan_texts : (c : ScanCall) (a : Tree) (axis : MaybeTree) → Texts a → MaybeTexts axis → Texts (scan c a axis)
scan_texts c a axis x y =
    let e = axis_ending axis y in
    call_texts (Scan c) (scan_text c) (scan c a axis) _ refl refl (scan_plain c a axis) (scan_runs c) (record {
      put = λ rest. x.whole.put (e.piece.put rest);
      spelled = λ rest. a_scan c (x.whole.spelled (e.piece.put rest)) (e.piece.spelled rest);
      runs = then_ending x.whole.runs e;
    })

pub take_texts : (a i : Tree) (axis : MaybeTree) → Texts a → Texts i → MaybeTexts axis → Texts (take a i axis)
take_texts a i axis x y z =
    let e = axis_ending axis z in
    call_texts Take (codes "take") (take a i axis) _ refl refl (λ rest. refl) the_take (record {
      put = λ rest. x.whole.put (sign Comma ∷ y.whole.put (e.piece.put rest));
      spelled = λ rest. a_take (x.whole.spelled (sign Comma ∷ y.whole.put (e.piece.put rest))) (y.whole.spelled (e.piece.put rest)) (e.piece.spelled rest);
      runs = listed_runs x.whole.runs (then_ending y.whole.runs e);
    })

abbrev pub MaybeShapePiece : MaybeShape → Type 0
MaybeShapePiece no_shape = ⊤
MaybeShapePiece (some_shape s) = ShapePiece s

pub transpose_texts : (a : Tree) (s : MaybeShape) → Texts a → MaybeShapePiece s → Texts (transpose a s)
transpose_texts a no_shape x p = call_texts Transpose (codes "transpose") (transpose a no_shape) _ refl refl (λ rest. refl) the_transpose (record {
  put = x.whole.put;
  spelled = λ rest. a_reversal (x.whole.spelled rest);
  runs = then x.whole.runs no_text (λ rest q. q);
})
transpose_texts a (some_shape s) x p = call_texts Transpose (codes "transpose") (transpose a (some_shape s)) _ refl refl (λ rest. refl) the_transpose (record {
  put = λ rest. x.whole.put (sign Comma ∷ p.put rest);
  spelled = λ rest. a_transpose (x.whole.spelled (sign Comma ∷ p.put rest)) (p.spelled rest);
  runs = listed_runs x.whole.runs p.runs;
})

pub broadcast_texts : (a : Tree) (s : ShapeTree) → Texts a → ShapePiece s → Texts (broadcast_to a s)
broadcast_texts a s x p = call_texts BroadcastTo (codes "broadcast_to") (broadcast_to a s) _ refl refl (λ rest. refl) the_broadcast_to (record {
  put = λ rest. x.whole.put (sign Comma ∷ p.put rest);
  spelled = λ rest. a_broadcast (x.whole.spelled (sign Comma ∷ p.put rest)) (p.spelled rest);
  runs = listed_runs x.whole.runs p.runs;
})

pub stencil_texts : (a : Tree) (l : ListTree) → Texts a → ListPiece l → Texts (stencil a l)
stencil_texts a l x p = call_texts Stencil (codes "stencil") (stencil a l) _ refl refl (λ rest. refl) the_stencil (record {
  put = λ rest. x.whole.put (sign Comma ∷ p.put rest);
  spelled = λ rest. a_stencil (x.whole.spelled (sign Comma ∷ p.put rest)) (p.spelled rest);
  runs = listed_runs x.whole.runs p.runs;
})

pub apply_texts : (w : List ℕ) (a b : Tree) → IsWord w → terminal_from Word w ≡ t.name w → Texts a → Texts b → Texts (apply w a b)
apply_texts w a b h e x y = call_texts Apply (codes "apply") (apply w a b) _ refl refl (λ rest. refl) the_apply (record {
  put = λ rest. t.name w ∷ sign Comma ∷ x.whole.put (sign Comma ∷ y.whole.put rest);
  spelled = λ rest. an_application w (x.whole.spelled (sign Comma ∷ y.whole.put rest)) (y.whole.spelled rest);
  runs = listed_runs (a_word w (t.name w) h e) (listed_runs x.whole.runs y.whole.runs);
})
