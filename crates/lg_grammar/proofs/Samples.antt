-- Lines and scripts of the worked examples.
use Rattle.std.proofs.Common.{◌≡◌, ℕ, ◌≤◌, List, [], ◌∷◌, ◌++◌, length, codes, refl, sym, ap, subst, arith, length-append}
use Rattle.lg_lex.specs.Line.{Reads}
use Rattle.lg_lex.specs.declared.tokens.Token.{Token}
use Rattle.lg_lex.specs.declared.tokens.TokenKind.{TokenKind}
use Rattle.lg_lex.specs.declared.tokens.TokenKind.TheVariants.{Equal, Colon, LeftParenthesis, RightParenthesis, LeftBracket}
use Rattle.lg_lex.proofs.ReaderLemmas.{example}
use Rattle.lg_tree.specs.Heads.{whole}
use Rattle.lg_parse.specs.Brackets.{NestsAtMost, opened, opened_by, opens}
use Rattle.lg_parse.specs.Expressions.{expr, Spells, uncompared, tightest, single, unsigned, alone, bare, a_number}
use Rattle.lg_parse.specs.Keywords.{keyword_of}
use Rattle.lg_parse.specs.Lexed.{terminals_of}
use Rattle.lg_parse.specs.Statements.{a_load, a_loop_to, HoldsHead}
use Rattle.lg_parse.specs.Terminal.{Terminal, word, element, function, sign}
use Rattle.lg_parse.specs.Terminal as t
use Rattle.lg_parse.specs.declared.words.Word.TheVariants.{For, In, Range, Load}
use Rattle.lg_tree.specs.Tree.{number}
use Rattle.lg_grammar.specs.Examples.{loads, over_i, spaces}
use Rattle.lg_grammar.specs.Script.{IsIndented, HoldsLine}

-- a few terminals have few brackets
opens_few : (k : TokenKind) → opens k ≤ 1
opens_few LeftParenthesis = omega arith
opens_few LeftBracket = omega arith
opens_few _ = omega arith

opened_one : (u : Terminal) → opened_by u ≤ 1
opened_one (sign k) = opens_few k
opened_one _ = omega arith

opened_few : (ts : List Terminal) → opened ts ≤ length ts
opened_few [] = omega arith
opened_few (u ∷ ts) = omega (arith, opened_one u, opened_few ts)

few_nest : (ts : List Terminal) → length ts ≤ 64 → NestsAtMost 64 ts
few_nest ts few front rest e =
    let count : length ts ≡ length (front ++ rest) = ap length e in
    omega (arith, length-append front rest, opened_few front)

abbrev load_terminals : List Terminal
load_terminals = t.name (codes "x") ∷ sign Equal ∷ word Load ∷ sign LeftParenthesis ∷ t.name (codes "f") ∷ sign RightParenthesis ∷ []

abbrev loop_terminals : List Terminal
loop_terminals = word For ∷ t.name (codes "i") ∷ word In ∷ word Range ∷ sign LeftParenthesis ∷ t.number 3 ∷ sign RightParenthesis ∷ sign Colon ∷ []

load_held : HoldsHead load_terminals (whole loads)
load_held = record { spelled = a_load (codes "x") (codes "f"); shallow = few_nest load_terminals (omega arith); low = omega arith }

three : {rest : List Terminal} → Spells expr (t.number 3 ∷ rest) rest (number 3)
three = uncompared (single (single (single (single (single (single (tightest (unsigned (alone (bare (a_number 3)))))))))))

loop_held : HoldsHead loop_terminals over_i
loop_held = record { spelled = a_loop_to (codes "i") three; shallow = few_nest loop_terminals (omega arith); low = omega arith }

-- a line with these terminals
pub load_line : {line : List ℕ} {ts : List Token} (d : ℕ) → Reads line ts → terminals_of line ts ≡ load_terminals → IsIndented d line → d ≤ 16 → HoldsLine line d (whole loads)
load_line {line} {ts} d r e i few = record {
  tokens = ts;
  lexed = r;
  held = subst (λ (us : List Terminal). HoldsHead us (whole loads)) (sym e) load_held;
  indented = i;
  shallow = few;
}

pub loop_line : {line : List ℕ} {ts : List Token} (d : ℕ) → Reads line ts → terminals_of line ts ≡ loop_terminals → IsIndented d line → d ≤ 16 → HoldsLine line d over_i
loop_line {line} {ts} d r e i few = record {
  tokens = ts;
  lexed = r;
  held = subst (λ (us : List Terminal). HoldsHead us over_i) (sym e) loop_held;
  indented = i;
  shallow = few;
}

pub the_load : HoldsLine (codes "x = load(f)") 0 (whole loads)
unfolding keyword_of
the_load = load_line 0 (example (codes "x = load(f)")) refl refl (omega arith)

pub the_inner : HoldsLine (codes "    x = load(f)") 1 (whole loads)
unfolding keyword_of
the_inner = load_line 1 (example (codes "    x = load(f)")) refl refl (omega arith)

pub the_second : HoldsLine (codes "        x = load(f)") 2 (whole loads)
unfolding keyword_of
the_second = load_line 2 (example (codes "        x = load(f)")) refl refl (omega arith)

pub the_loop : HoldsLine (codes "for i in range(3):") 0 over_i
unfolding keyword_of
the_loop = loop_line 0 (example (codes "for i in range(3):")) refl refl (omega arith)

pub the_deepest : HoldsLine (spaces 64 ++ codes "x = load(f)") 16 (whole loads)
unfolding keyword_of
the_deepest = load_line 16 (example (spaces 64 ++ codes "x = load(f)")) refl refl (omega arith)
