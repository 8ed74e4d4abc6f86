-- Parts of canonical text: the terminals as which each is read spell it.
use Rattle.std.proofs.Common.{◌≡◌, ◌==◌, ℕ, zero, suc, Option, None, Some, List, [], ◌∷◌, ◌++◌, codes, refl, sym, ◌∙◌, subst, append_assoc}
use Rattle.lg_elem.specs.declared.dtype.DType.{DType}
use Rattle.lg_lex.specs.Lexical.{BeginsApart}
use Rattle.lg_lex.specs.declared.tokens.TokenKind.{TokenKind}
use Rattle.lg_lex.specs.declared.tokens.TokenKind.TheVariants.{Comma, LeftParenthesis, RightParenthesis}
use Rattle.lg_tree.specs.Tree.{Tree}
use Rattle.lg_text.specs.Text.{text, is_operator, enclosed, listed, between, type_text}
use Rattle.lg_parse.specs.Terminal.{Terminal, element, sign}
use Rattle.lg_parse.specs.Expressions.{Form, expr, level, unary, postfix, Spells, uncompared, tightest, single, unsigned, alone, bare as of_atom, enclosed as in_parentheses}
use Rattle.lg_parse.specs.Operators.{WIDEST}
use Rattle.lg_parse.specs.Types.{SpellsType, no_type, plain_type}
use Rattle.lg_canonical.proofs.Signs.{BeginsSpace, BeginsPlain}
use Rattle.lg_canonical.proofs.Running.{Put, Runs, then, lead, anywhere, no_text, a_space}
use Rattle.lg_canonical.proofs.Marks.{opening, closing, comma_space}
use Rattle.lg_canonical.proofs.Reserved.{dtype_runs}

-- a text, and the terminals as which it is read
pub record Piece (spells : List Terminal → List Terminal → Type 0) (bytes : List ℕ) : Type 0 where
  pub put : Put
  pub spelled : (rest : List Terminal) → spells (put rest) rest
  pub runs : Runs BeginsApart bytes put

pub map_piece : {S T : List Terminal → List Terminal → Type 0} {bytes : List ℕ} → ((ts rest : List Terminal) → S ts rest → T ts rest) → Piece S bytes → Piece T bytes
map_piece f p = record { put = p.put; spelled = λ rest. f (p.put rest) rest (p.spelled rest); runs = p.runs }

-- what may be left out: behind it stands what could stand in its place
pub record Ending (spells : List Terminal → List Terminal → Type 0) (bytes : List ℕ) : Type 0 where
  pub piece : Piece spells bytes
  pub edge : (rest : List ℕ) → BeginsApart rest → BeginsApart (bytes ++ rest)

pub then_ending : {S : List Terminal → List Terminal → Type 0} {a b : List ℕ} {f : Put} → Runs BeginsApart a f → (e : Ending S b) → Runs BeginsApart (a ++ b) (λ ts. f (e.piece.put ts))
then_ending x e = then x e.piece.runs e.edge

abbrev pub Written : Form → Tree → List ℕ → Type 0
Written f e bytes = Piece (λ ts rest. Spells f ts rest e) bytes

-- whatever stands behind it, it does not begin with `=`
abbrev pub StartsPlain : List ℕ → Type 0
StartsPlain bytes = (rest : List ℕ) → BeginsPlain (bytes ++ rest)

pub plain_front : (a b : List ℕ) → StartsPlain a → StartsPlain (a ++ b)
plain_front a b p rest = subst BeginsPlain (sym (append_assoc a b rest)) (p (b ++ rest))

-- the text of a tree, alone and as an operand or a base
pub record Texts (e : Tree) : Type 0 where
  pub whole : Written expr e (text e)
  pub plain : StartsPlain (text e)
  pub inner : Written postfix e (enclosed (is_operator e) (text e))
  pub inner_plain : StartsPlain (enclosed (is_operator e) (text e))

-- ---- up from the tighter forms

pub to_unary : {ts rest : List Terminal} {e : Tree} → Spells postfix ts rest e → Spells unary ts rest e
to_unary d = unsigned (alone d)

pub to_level : (l : ℕ) {ts rest : List Terminal} {e : Tree} → Spells unary ts rest e → Spells (level l) ts rest e
to_level zero d = tightest d
to_level (suc l) d = single (to_level l d)

pub to_expr : {ts rest : List Terminal} {e : Tree} → Spells unary ts rest e → Spells expr ts rest e
to_expr d = uncompared (to_level WIDEST d)

-- a tree that needs no parentheses
pub bare : (e : Tree) → enclosed (is_operator e) (text e) ≡ text e → StartsPlain (text e) → Written postfix e (text e) → Texts e
bare e same plain w = record {
  whole = map_piece (λ ts rest d. to_expr (to_unary d)) w;
  plain = plain;
  inner = subst (λ (bs : List ℕ). Written postfix e bs) (sym same) w;
  inner_plain = subst StartsPlain (sym same) plain;
}

abbrev pub parenthesized : List ℕ → List ℕ
parenthesized t = codes "(" ++ (t ++ codes ")")

pub in_call : {P : List ℕ → Type 0} {inside : List ℕ} {f : Put} → Runs BeginsApart inside f → Runs P (parenthesized inside) (λ ts. sign LeftParenthesis ∷ f (sign RightParenthesis ∷ ts))
in_call x = lead opening (then x (anywhere closing) (λ rest q. refl))

-- and one that needs them
pub operator : (e : Tree) → enclosed (is_operator e) (text e) ≡ parenthesized (text e) → StartsPlain (text e) → Written expr e (text e) → Texts e
operator e same plain w = record {
  whole = w;
  plain = plain;
  inner = subst (λ (bs : List ℕ). Written postfix e bs) (sym same) (record {
    put = λ rest. sign LeftParenthesis ∷ w.put (sign RightParenthesis ∷ rest);
    spelled = λ rest. of_atom (in_parentheses (w.spelled (sign RightParenthesis ∷ rest)));
    runs = in_call w.runs;
  });
  inner_plain = subst StartsPlain (sym same) (λ rest. refl);
}

-- ---- texts beside each other

pub listed_runs : {P : List ℕ → Type 0} {a b : List ℕ} {f g : Put} → Runs BeginsApart a f → Runs P b g → Runs P (listed a b) (λ ts. f (sign Comma ∷ g ts))
listed_runs x y = then x (lead comma_space y) (λ rest q. refl)

pub between_runs : {a s b : List ℕ} {f g : Put} {k : TokenKind} → Runs BeginsApart a f → Runs BeginsSpace s (λ ts. sign k ∷ ts) → Runs BeginsApart b g → Runs BeginsApart (between a s b) (λ ts. f (sign k ∷ g ts))
between_runs x s y = then x (lead a_space (then s (lead a_space y) (λ rest q. refl))) (λ rest q. refl)

pub retext : {P : List ℕ → Type 0} {a b : List ℕ} {f : Put} → a ≡ b → Runs P a f → Runs P b f
retext {P} {a} {b} {f} e x = subst (λ (bs : List ℕ). Runs P bs f) e x

pub type_ending : (t : Option DType) → Ending (λ ts rest. SpellsType ts rest t) (type_text t)
type_ending None = record { piece = record { put = λ rest. rest; spelled = λ rest. no_type; runs = no_text }; edge = λ rest q. q }
type_ending (Some t) = record {
  piece = record { put = λ rest. sign Comma ∷ element t ∷ rest; spelled = λ rest. plain_type t; runs = lead comma_space (dtype_runs t) };
  edge = λ rest q. refl;
}
