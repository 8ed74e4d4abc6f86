-- The text of numbers, truth values, names and operators.
use Rattle.std.proofs.Common.{◌≡◌, ◌==◌, ◌≤◌, ◌<◌, ℕ, suc, true, false, Some, List, [], ◌∷◌, ◌++◌, codes, decimal, refl, sym, ◌∙◌, subst, arith as arithmetic}
use Rattle.std.proofs.lemmas.Bool.Decides.{nat_tests}
use Rattle.lg_elem.specs.declared.kinds.Compare.{Compare}
use Rattle.lg_elem.specs.declared.kinds.Compare.TheVariants.{Eq, Ne, Lt, Le, Gt, Ge}
use Rattle.lg_tree.specs.declared.kinds.Arith.{Arith}
use Rattle.lg_tree.specs.declared.kinds.Arith.TheVariants.{Add, Sub, Mul, FloorDiv, Rem, Pow, BitAnd, BitOr, BitXor, Shl, Shr}
use Rattle.lg_tree.specs.Tree.{Tree, number, truth, name, neg, invert, arith, matmul, compare}
use Rattle.lg_lex.specs.Bytes.{is_letter, is_digit}
use Rattle.lg_lex.specs.Lexical.{IsWord, MAX_NUMBER}
use Rattle.lg_lex.specs.declared.tokens.TokenKind.{TokenKind}
use Rattle.lg_lex.specs.declared.tokens.TokenKind.TheVariants.{Word, Minus, Tilde, At, DoubleStar}
use Rattle.lg_lex.proofs.DecimalLemmas.{decimal_digits, decimal_some}
use Rattle.lg_lex.proofs.KindLemmas.{digits_head}
use Rattle.lg_text.specs.Text.{text, is_operator, enclosed, between}
use Rattle.lg_text.specs.Words.{arith_text, compare_text}
use Rattle.lg_parse.specs.Terminal.{Terminal, word, sign}
use Rattle.lg_parse.specs.Terminal as t
use Rattle.lg_parse.specs.declared.words.Word.TheVariants.{True, False}
use Rattle.lg_parse.specs.declared.operators.Operator.{Operator}
use Rattle.lg_parse.specs.declared.operators.Operator.TheVariants.{Each, Matrix}
use Rattle.lg_parse.specs.Lexed.{terminal_from}
use Rattle.lg_parse.specs.Operators.{operation, operated, comparison, WIDEST}
use Rattle.lg_parse.specs.Expressions.{expr, level, postfix, Spells, uncompared, compared, single, joined, negative, inverted, unsigned, raised, bare as of_atom, a_number, a_truth, a_falsehood, a_name}
use Rattle.lg_canonical.proofs.Signs.{BeginsSpace, BeginsPlain}
use Rattle.lg_canonical.proofs.Running.{Runs, then, lead, a_word, a_number as number_runs}
use Rattle.lg_canonical.proofs.Marks.{minus, tilde, at_spaced, arith_sign, arith_spaced, compare_sign, compare_spaced}
use Rattle.lg_canonical.proofs.Reserved.{the_true, the_false}
use Rattle.lg_canonical.proofs.Pieces.{Written, StartsPlain, plain_front, Texts, to_unary, to_level, to_expr, bare, parenthesized, operator, between_runs}

letter_plain : (b : ℕ) → is_letter b ≡ true → (b == 61) ≡ false
letter_plain b h = grind (arithmetic, nat_tests)

digit_plain : (b : ℕ) → is_digit b ≡ true → (b == 61) ≡ false
digit_plain b h = grind (arithmetic, nat_tests)

pub word_plain : (w : List ℕ) → IsWord w → StartsPlain w
word_plain [] h rest = absurd h
word_plain (b ∷ bs) h rest = letter_plain b h.0

first_plain : (ds : List ℕ) (b : ℕ) (bs : List ℕ) → ds ≡ b ∷ bs → is_digit b ≡ true → StartsPlain ds
first_plain ds b bs e h rest = subst (λ (z : List ℕ). BeginsPlain (z ++ rest)) (sym e) (digit_plain b h)

number_plain : (n : ℕ) → n ≤ MAX_NUMBER → StartsPlain (decimal n)
number_plain n low =
    let h = digits_head (decimal n) (decimal_some n low) (decimal_digits n low) in
    first_plain (decimal n) h.0 h.1 h.2.0 h.2.1

pub number_texts : (n : ℕ) → n ≤ MAX_NUMBER → Texts (number n)
number_texts n low = bare (number n) refl (number_plain n low)
    (record { put = λ rest. t.number n ∷ rest; spelled = λ rest. of_atom (a_number n); runs = number_runs n low })

pub truth_texts : Texts (truth true)
truth_texts = bare (truth true) refl (λ rest. refl) (record { put = λ rest. word True ∷ rest; spelled = λ rest. of_atom a_truth; runs = the_true })

pub falsehood_texts : Texts (truth false)
falsehood_texts = bare (truth false) refl (λ rest. refl) (record { put = λ rest. word False ∷ rest; spelled = λ rest. of_atom a_falsehood; runs = the_false })

pub name_texts : (w : List ℕ) → IsWord w → terminal_from Word w ≡ t.name w → Texts (name w)
name_texts w h e = bare (name w) refl (word_plain w h) (record { put = λ rest. t.name w ∷ rest; spelled = λ rest. of_atom (a_name w); runs = a_word w (t.name w) h e })

pub negative_texts : (a : Tree) → Texts a → Texts (neg a)
negative_texts a x = operator (neg a) refl (λ rest. refl) (record {
  put = λ rest. sign Minus ∷ x.inner.put rest;
  spelled = λ rest. to_expr (negative (to_unary (x.inner.spelled rest)));
  runs = then minus x.inner.runs (λ rest q. x.inner_plain rest);
})

pub inverted_texts : (a : Tree) → Texts a → Texts (invert a)
inverted_texts a x = operator (invert a) refl (λ rest. refl) (record {
  put = λ rest. sign Tilde ∷ x.inner.put rest;
  spelled = λ rest. to_expr (inverted (to_unary (x.inner.spelled rest)));
  runs = lead tilde x.inner.runs;
})

-- ---- operators between two operands

-- two operands as they stand in the text
abbrev pub operands : Tree → List ℕ → Tree → List ℕ
operands a s b = between (enclosed (is_operator a) (text a)) s (enclosed (is_operator b) (text b))

pub pair_texts : (e a b : Tree) (s : List ℕ) (k : TokenKind) → text e ≡ operands a s b → enclosed (is_operator e) (text e) ≡ parenthesized (text e) → Runs BeginsSpace s (λ ts. sign k ∷ ts) → ((ts us rest : List Terminal) → Spells postfix ts (sign k ∷ us) a → Spells postfix us rest b → Spells expr ts rest e) → Texts a → Texts b → Texts e
pair_texts e a b s k is same runs spells x y = operator e same
    (subst StartsPlain (sym is) (plain_front (enclosed (is_operator a) (text a)) _ x.inner_plain))
    (subst (λ (bs : List ℕ). Written expr e bs) (sym is) (record {
      put = λ rest. x.inner.put (sign k ∷ y.inner.put rest);
      spelled = λ rest. spells (x.inner.put (sign k ∷ y.inner.put rest)) (y.inner.put rest) rest (x.inner.spelled (sign k ∷ y.inner.put rest)) (y.inner.spelled rest);
      runs = between_runs x.inner.runs runs y.inner.runs;
    }))

-- an operator of a level
at_level : (l : ℕ) (k : TokenKind) (o : Operator) (a b : Tree) → operation k ≡ Some (suc l, o) → (ts us rest : List Terminal) → Spells postfix ts (sign k ∷ us) a → Spells postfix us rest b → Spells (level (suc l)) ts rest (operated o a b)
at_level l k o a b h ts us rest d e = joined k o h (to_level (suc l) (to_unary d)) (to_level l (to_unary e))

from_widest : {ts rest : List Terminal} {e : Tree} → Spells (level 6) ts rest e → Spells expr ts rest e
from_widest d = uncompared d

from_fifth : {ts rest : List Terminal} {e : Tree} → Spells (level 5) ts rest e → Spells expr ts rest e
from_fifth d = from_widest (single d)

from_fourth : {ts rest : List Terminal} {e : Tree} → Spells (level 4) ts rest e → Spells expr ts rest e
from_fourth d = from_fifth (single d)

from_third : {ts rest : List Terminal} {e : Tree} → Spells (level 3) ts rest e → Spells expr ts rest e
from_third d = from_fourth (single d)

from_second : {ts rest : List Terminal} {e : Tree} → Spells (level 2) ts rest e → Spells expr ts rest e
from_second d = from_third (single d)

from_first : {ts rest : List Terminal} {e : Tree} → Spells (level 1) ts rest e → Spells expr ts rest e
from_first d = from_second (single d)

joined_texts : (l : ℕ) (o : Arith) (a b : Tree) → operation (arith_sign o) ≡ Some (suc l, Each o) → ((ts rest : List Terminal) → Spells (level (suc l)) ts rest (arith o a b) → Spells expr ts rest (arith o a b)) → Texts a → Texts b → Texts (arith o a b)
joined_texts l o a b h up x y =
    pair_texts (arith o a b) a b (arith_text o) (arith_sign o) refl refl (arith_spaced o)
    (λ ts us rest d e. up ts rest (at_level l (arith_sign o) (Each o) a b h ts us rest d e)) x y

pub arith_texts : (o : Arith) (a b : Tree) → Texts a → Texts b → Texts (arith o a b)
arith_texts Add a b x y = joined_texts 1 Add a b refl (λ ts rest d. from_second d) x y
arith_texts Sub a b x y = joined_texts 1 Sub a b refl (λ ts rest d. from_second d) x y
arith_texts Mul a b x y = joined_texts 0 Mul a b refl (λ ts rest d. from_first d) x y
arith_texts FloorDiv a b x y = joined_texts 0 FloorDiv a b refl (λ ts rest d. from_first d) x y
arith_texts Rem a b x y = joined_texts 0 Rem a b refl (λ ts rest d. from_first d) x y
arith_texts Pow a b x y =
    pair_texts (arith Pow a b) a b (arith_text Pow) DoubleStar refl refl (arith_spaced Pow)
    (λ ts us rest d e. to_expr (unsigned (raised d (to_unary e)))) x y
arith_texts BitAnd a b x y = joined_texts 3 BitAnd a b refl (λ ts rest d. from_fourth d) x y
arith_texts BitOr a b x y = joined_texts 5 BitOr a b refl (λ ts rest d. from_widest d) x y
arith_texts BitXor a b x y = joined_texts 4 BitXor a b refl (λ ts rest d. from_fifth d) x y
arith_texts Shl a b x y = joined_texts 2 Shl a b refl (λ ts rest d. from_third d) x y
arith_texts Shr a b x y = joined_texts 2 Shr a b refl (λ ts rest d. from_third d) x y

pub matmul_texts : (a b : Tree) → Texts a → Texts b → Texts (matmul a b)
matmul_texts a b x y =
    pair_texts (matmul a b) a b (codes "@") At refl refl at_spaced
    (λ ts us rest d e. from_first (at_level 0 At Matrix a b refl ts us rest d e)) x y

pub operated_texts : (o : Operator) (a b : Tree) → Texts a → Texts b → Texts (operated o a b)
operated_texts (Each o) a b x y = arith_texts o a b x y
operated_texts Matrix a b x y = matmul_texts a b x y

sign_compares : (o : Compare) → comparison (compare_sign o) ≡ Some o
sign_compares Eq = refl
sign_compares Ne = refl
sign_compares Lt = refl
sign_compares Le = refl
sign_compares Gt = refl
sign_compares Ge = refl

pub compared_texts : (o : Compare) (a b : Tree) → Texts a → Texts b → Texts (compare o a b)
compared_texts o a b x y =
    pair_texts (compare o a b) a b (compare_text o) (compare_sign o) refl refl (compare_spaced o)
    (λ ts us rest d e. compared (compare_sign o) o (sign_compares o) (to_level WIDEST (to_unary d)) (to_level WIDEST (to_unary e))) x y
