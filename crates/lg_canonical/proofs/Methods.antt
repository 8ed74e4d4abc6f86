-- The text of indices and methods.
use Rattle.std.proofs.Common.{◌≡◌, ℕ, List, [], ◌∷◌, ◌++◌, codes, refl, sym, subst}
use Rattle.lg_elem.specs.declared.dtype.DType.{DType}
use Rattle.lg_tree.specs.Tree.{Tree, index, copy, flatten, as_type, reshape, ShapeTree, ItemTree, ItemTrees, more_items}
use Rattle.lg_lex.specs.Lexical.{BeginsApart}
use Rattle.lg_lex.specs.declared.tokens.TokenKind.TheVariants.{LeftParenthesis, RightParenthesis, LeftBracket, RightBracket, Dot}
use Rattle.lg_text.specs.Text.{text, is_operator, enclosed, call_text}
use Rattle.lg_parse.specs.Terminal.{Terminal, sign}
use Rattle.lg_parse.specs.Terminal as t
use Rattle.lg_parse.specs.Expressions.{postfix, suffixed, SpellsSuffix, indexed, copied, flattened, cast, reshaped, as_shape}
use Rattle.lg_canonical.proofs.Running.{Put, Anything, Runs, then, anywhere, no_text}
use Rattle.lg_canonical.proofs.Marks.{dot}
use Rattle.lg_canonical.proofs.Reserved.{the_copy, the_flatten, the_astype, the_reshape, dtype_runs}
use Rattle.lg_canonical.proofs.Pieces.{Written, StartsPlain, plain_front, Texts, bare, in_call}
use Rattle.lg_canonical.proofs.Members.{ItemPieces, index_runs, ShapePiece}

-- a tree that is a base and what stands behind it
pub suffix_texts : (e a : Tree) (suffix : List ℕ) (put : Put) → text e ≡ enclosed (is_operator a) (text a) ++ suffix → enclosed (is_operator e) (text e) ≡ text e → ((rest : List Terminal) → SpellsSuffix a (put rest) rest e) → Runs Anything suffix put → ((rest : List ℕ) → BeginsApart (suffix ++ rest)) → Texts a → Texts e
suffix_texts e a suffix put is same spelled runs edge x = bare e same
    (subst StartsPlain (sym is) (plain_front (enclosed (is_operator a) (text a)) suffix x.inner_plain))
    (subst (λ (bs : List ℕ). Written postfix e bs) (sym is) (record {
      put = λ rest. x.inner.put (put rest);
      spelled = λ rest. suffixed (x.inner.spelled (put rest)) (spelled rest);
      runs = then x.inner.runs (anywhere runs) (λ rest q. edge rest);
    }))

pub index_texts : (a : Tree) (i : ItemTree) (is : ItemTrees) → Texts a → ItemPieces (more_items i is) → Texts (index a (more_items i is))
index_texts a i is x ps =
    let p = index_runs i is ps in
    suffix_texts (index a (more_items i is)) a _ (λ rest. sign LeftBracket ∷ p.put (sign RightBracket ∷ rest)) refl refl
    (λ rest. indexed (p.spelled (sign RightBracket ∷ rest))) p.runs (λ rest. refl) x

-- the parentheses of a method
method_call : {w inside : List ℕ} {f g : Put} → Runs BeginsApart w f → Runs BeginsApart inside g → Runs Anything (call_text w inside) (λ ts. f (sign LeftParenthesis ∷ g (sign RightParenthesis ∷ ts)))
method_call x y = then x (in_call y) (λ rest q. refl)

dot_copy : Runs BeginsApart (codes ".copy") (λ ts. sign Dot ∷ t.name (codes "copy") ∷ ts)
dot_copy = then dot the_copy (λ rest q. refl)

dot_flatten : Runs BeginsApart (codes ".flatten") (λ ts. sign Dot ∷ t.name (codes "flatten") ∷ ts)
dot_flatten = then dot the_flatten (λ rest q. refl)

dot_astype : Runs BeginsApart (codes ".astype") (λ ts. sign Dot ∷ t.name (codes "astype") ∷ ts)
dot_astype = then dot the_astype (λ rest q. refl)

dot_reshape : Runs BeginsApart (codes ".reshape") (λ ts. sign Dot ∷ t.name (codes "reshape") ∷ ts)
dot_reshape = then dot the_reshape (λ rest q. refl)

pub copy_texts : (a : Tree) → Texts a → Texts (copy a)
copy_texts a x = suffix_texts (copy a) a _ _ refl refl (λ rest. copied) (method_call dot_copy no_text) (λ rest. refl) x

pub flatten_texts : (a : Tree) → Texts a → Texts (flatten a)
flatten_texts a x = suffix_texts (flatten a) a _ _ refl refl (λ rest. flattened) (method_call dot_flatten no_text) (λ rest. refl) x

pub cast_texts : (a : Tree) (d : DType) → Texts a → Texts (as_type a d)
cast_texts a d x = suffix_texts (as_type a d) a _ _ refl refl (λ rest. cast d) (method_call dot_astype (dtype_runs d)) (λ rest. refl) x

pub reshape_texts : (a : Tree) (s : ShapeTree) → Texts a → ShapePiece s → Texts (reshape a s)
reshape_texts a s x p = suffix_texts (reshape a s) a _ _ refl refl (λ rest. reshaped (as_shape (p.spelled (sign RightParenthesis ∷ rest)))) (method_call dot_reshape p.runs) (λ rest. refl) x
