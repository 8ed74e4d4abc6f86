-- The text of the lines of statements.
use Rattle.std.proofs.Common.{◌≡◌, ℕ, true, false, Some, List, [], ◌∷◌, ◌++◌, codes, refl, arith}
use Rattle.std.proofs.lemmas.Bool.Decides.{nat_tests}
use Rattle.lg_tree.specs.declared.kinds.Arith.{Arith}
use Rattle.lg_tree.specs.declared.kinds.Arith.TheVariants.{Add, Sub, Mul, FloorDiv, Rem, Pow, BitAnd, BitOr, BitXor, Shl, Shr}
use Rattle.lg_tree.specs.Tree.{Tree, no_tree, some_tree, ItemTree, ItemTrees, more_items, bind, update, put, update_at, print, load, save}
use Rattle.lg_tree.specs.Heads.{HeadTree, whole, loop_head}
use Rattle.lg_lex.specs.Bytes.{is_blank, is_letter}
use Rattle.lg_lex.specs.Lexical.{IsWord, BeginsApart}
use Rattle.lg_lex.specs.declared.tokens.TokenKind.TheVariants.{Equal, Comma, Colon, LeftParenthesis, RightParenthesis, LeftBracket, RightBracket}
use Rattle.lg_text.specs.Text.{bounds_text, index_text}
use Rattle.lg_parse.specs.declared.words.Word.TheVariants.{Print, For, In, Range, Load, Save}
use Rattle.lg_parse.specs.Terminal.{Terminal, word, sign}
use Rattle.lg_parse.specs.Terminal as t
use Rattle.lg_parse.specs.Operators.{assigning}
use Rattle.lg_parse.specs.Statements.{SpellsHead, a_bind, an_update, a_put, an_update_at, a_print, a_load, a_save, a_loop_to, a_loop}
use Rattle.lg_canonical.specs.Heads.{head_line}
use Rattle.lg_canonical.proofs.Running.{Put, Anything, Runs, then, lead, anywhere, a_space, a_word}
use Rattle.lg_canonical.proofs.Marks.{opening, closing, colon, equal_spaced, assigning_sign, assigning_spaced}
use Rattle.lg_canonical.proofs.Reserved.{the_print, the_load, the_save, the_for, the_in, the_range}
use Rattle.lg_canonical.proofs.Goods.{IsGood, AreGood}
use Rattle.lg_canonical.proofs.Pieces.{Texts, in_call, listed_runs, between_runs}
use Rattle.lg_canonical.proofs.Members.{ItemPieces, index_runs}
use Rattle.lg_canonical.proofs.Derived.{expression_read, items_read}

-- the first byte is no blank
abbrev pub IsSolid : List ℕ → Type 0
IsSolid [] = ⊥
IsSolid (b ∷ bs) = is_blank b ≡ false

-- the terminals as which the line is read spell it
pub record LinePiece (h : HeadTree) : Type 0 where
  pub put : Put
  pub spelled : SpellsHead (put []) h
  pub runs : Runs BeginsApart (head_line h) put
  pub solid : IsSolid (head_line h)

letter_solid : (b : ℕ) → is_letter b ≡ true → is_blank b ≡ false
letter_solid b h = grind (arith, nat_tests)

word_solid : (w rest : List ℕ) → IsWord w → IsSolid (w ++ rest)
word_solid [] rest h = absurd h
word_solid (b ∷ bs) rest h = letter_solid b h.0

front_solid : (a b : List ℕ) → IsSolid a → IsSolid (a ++ b)
front_solid [] b h = absurd h
front_solid (x ∷ a) b h = h

name_runs : (w : List ℕ) → IsGood (t.name w) → Runs BeginsApart w (λ ts. t.name w ∷ ts)
name_runs w g = a_word w (t.name w) g.0 g.1

bind_line : (w : List ℕ) (e : Tree) → IsGood (t.name w) → Texts e → LinePiece (whole (bind w e))
bind_line w e g x = record {
  put = λ rest. t.name w ∷ sign Equal ∷ x.whole.put rest;
  spelled = a_bind w (x.whole.spelled []);
  runs = between_runs (name_runs w g) equal_spaced x.whole.runs;
  solid = word_solid w _ g.0;
}

assigns : (o : Arith) → assigning (assigning_sign o) ≡ Some o
assigns Add = refl
assigns Sub = refl
assigns Mul = refl
assigns FloorDiv = refl
assigns Rem = refl
assigns Pow = refl
assigns BitAnd = refl
assigns BitOr = refl
assigns BitXor = refl
assigns Shl = refl
assigns Shr = refl

update_line : (w : List ℕ) (o : Arith) (e : Tree) → IsGood (t.name w) → Texts e → LinePiece (whole (update w o e))
update_line w o e g x = record {
  put = λ rest. t.name w ∷ sign (assigning_sign o) ∷ x.whole.put rest;
  spelled = an_update w (assigning_sign o) o (assigns o) (x.whole.spelled []);
  runs = between_runs (name_runs w g) (assigning_spaced o) x.whole.runs;
  solid = word_solid w _ g.0;
}

put_line : (w : List ℕ) (i : ItemTree) (is : ItemTrees) (e : Tree) → IsGood (t.name w) → ItemPieces (more_items i is) → Texts e → LinePiece (whole (put w (more_items i is) e))
put_line w i is e g ps x =
    let p = index_runs i is ps in
    record {
      put = λ rest. t.name w ∷ sign LeftBracket ∷ p.put (sign RightBracket ∷ sign Equal ∷ x.whole.put rest);
      spelled = a_put w (p.spelled (sign RightBracket ∷ sign Equal ∷ x.whole.put [])) (x.whole.spelled []);
      runs = between_runs (then (name_runs w g) (anywhere p.runs) (λ rest q. refl)) equal_spaced x.whole.runs;
      solid = front_solid (w ++ index_text (more_items i is)) _ (word_solid w (index_text (more_items i is)) g.0);
    }

update_at_line : (w : List ℕ) (i : ItemTree) (is : ItemTrees) (o : Arith) (e : Tree) → IsGood (t.name w) → ItemPieces (more_items i is) → Texts e → LinePiece (whole (update_at w (more_items i is) o e))
update_at_line w i is o e g ps x =
    let p = index_runs i is ps in
    record {
      put = λ rest. t.name w ∷ sign LeftBracket ∷ p.put (sign RightBracket ∷ sign (assigning_sign o) ∷ x.whole.put rest);
      spelled = an_update_at w (assigning_sign o) o (assigns o) (p.spelled (sign RightBracket ∷ sign (assigning_sign o) ∷ x.whole.put [])) (x.whole.spelled []);
      runs = between_runs (then (name_runs w g) (anywhere p.runs) (λ rest q. refl)) (assigning_spaced o) x.whole.runs;
      solid = front_solid (w ++ index_text (more_items i is)) _ (word_solid w (index_text (more_items i is)) g.0);
    }

print_line : (e : Tree) → Texts e → LinePiece (whole (print e))
print_line e x = record {
  put = λ rest. word Print ∷ sign LeftParenthesis ∷ x.whole.put (sign RightParenthesis ∷ rest);
  spelled = a_print (x.whole.spelled (sign RightParenthesis ∷ []));
  runs = then the_print (in_call x.whole.runs) (λ rest q. refl);
  solid = refl;
}

load_line : (w file : List ℕ) → IsGood (t.name w) → IsGood (t.name file) → LinePiece (whole (load w file))
load_line w file g h = record {
  put = λ rest. t.name w ∷ sign Equal ∷ word Load ∷ sign LeftParenthesis ∷ t.name file ∷ sign RightParenthesis ∷ rest;
  spelled = a_load w file;
  runs = between_runs (name_runs w g) equal_spaced (then the_load (in_call (name_runs file h)) (λ rest q. refl));
  solid = word_solid w _ g.0;
}

save_line : (file : List ℕ) (e : Tree) → IsGood (t.name file) → Texts e → LinePiece (whole (save file e))
save_line file e g x = record {
  put = λ rest. word Save ∷ sign LeftParenthesis ∷ t.name file ∷ sign Comma ∷ x.whole.put (sign RightParenthesis ∷ rest);
  spelled = a_save file (x.whole.spelled (sign RightParenthesis ∷ []));
  runs = then the_save (in_call (listed_runs (name_runs file g) x.whole.runs)) (λ rest q. refl);
  solid = refl;
}

for_runs : Runs Anything (codes "for ") (λ ts. word For ∷ ts)
for_runs = then the_for a_space (λ rest q. refl)

in_range_runs : Runs Anything (codes " in range(") (λ ts. word In ∷ word Range ∷ sign LeftParenthesis ∷ ts)
in_range_runs = lead a_space (then the_in (lead a_space (then the_range opening (λ rest q. refl))) (λ rest q. refl))

loop_runs : (w : List ℕ) (bounds : List ℕ) (f : Put) → IsGood (t.name w) → Runs BeginsApart bounds f → Runs BeginsApart (codes "for " ++ (w ++ (codes " in range(" ++ (bounds ++ codes "):")))) (λ ts. word For ∷ t.name w ∷ word In ∷ word Range ∷ sign LeftParenthesis ∷ f (sign RightParenthesis ∷ sign Colon ∷ ts))
loop_runs w bounds f g x = lead for_runs (then (name_runs w g) (lead in_range_runs (then x (anywhere (lead closing colon)) (λ rest q. refl))) (λ rest q. refl))

loop_to_line : (w : List ℕ) (to : Tree) → IsGood (t.name w) → Texts to → LinePiece (loop_head w no_tree to)
loop_to_line w to g x = record {
  put = λ rest. word For ∷ t.name w ∷ word In ∷ word Range ∷ sign LeftParenthesis ∷ x.whole.put (sign RightParenthesis ∷ sign Colon ∷ rest);
  spelled = a_loop_to w (x.whole.spelled (sign RightParenthesis ∷ sign Colon ∷ []));
  runs = loop_runs w (bounds_text no_tree to) x.whole.put g x.whole.runs;
  solid = refl;
}

loop_line : (w : List ℕ) (from to : Tree) → IsGood (t.name w) → Texts from → Texts to → LinePiece (loop_head w (some_tree from) to)
loop_line w from to g x y = record {
  put = λ rest. word For ∷ t.name w ∷ word In ∷ word Range ∷ sign LeftParenthesis ∷ x.whole.put (sign Comma ∷ y.whole.put (sign RightParenthesis ∷ sign Colon ∷ rest));
  spelled = a_loop w (x.whole.spelled (sign Comma ∷ y.whole.put (sign RightParenthesis ∷ sign Colon ∷ []))) (y.whole.spelled (sign RightParenthesis ∷ sign Colon ∷ []));
  runs = loop_runs w (bounds_text (some_tree from) to) _ g (listed_runs x.whole.runs y.whole.runs);
  solid = refl;
}

pub line_read : {ts : List Terminal} {h : HeadTree} → SpellsHead ts h → AreGood ts → LinePiece h
line_read (a_bind w d) g = bind_line w _ g.0 (expression_read d g.1.1).0
line_read (an_update w k o e d) g = update_line w o _ g.0 (expression_read d g.1.1).0
line_read (a_put w s d) g = let ps = items_read s g.1.1 in put_line w _ _ _ g.0 ps.0 (expression_read d ps.1.1.1).0
line_read (an_update_at w k o e s d) g = let ps = items_read s g.1.1 in update_at_line w _ _ o _ g.0 ps.0 (expression_read d ps.1.1.1).0
line_read (a_print d) g = print_line _ (expression_read d g.1.1).0
line_read (a_load w file) g = load_line w file g.0 g.1.1.1.1.0
line_read (a_save file d) g = save_line file _ g.1.1.0 (expression_read d g.1.1.1.1).0
line_read (a_loop_to w d) g = loop_to_line w _ g.1.0 (expression_read d g.1.1.1.1.1).0
line_read (a_loop w a b) g = let x = expression_read a g.1.1.1.1.1 in loop_line w _ _ g.1.0 x.0 (expression_read b x.1.1).0
