-- What is known of one line, by how its reading ends.
use Rattle.std.proofs.Common.{◌≡◌, ℕ, ◌≤◌, None, Result, Ok, Err, IfErr, IsErrAnd, List, [], length, sym, ap, subst, arith}
use Rattle.std.proofs.lemmas.List.{length-map}
use Rattle.lg_lex.specs.Line.{Reads, ReadsNone}
use Rattle.lg_lex.specs.declared.tokens.Token.{Token}
use Rattle.lg_lex.proofs.LineLemmas.{reads_once, reads_few}
use Rattle.lg_tree.specs.Heads.{HeadTree}
use Rattle.lg_parse.specs.Lexed.{terminal_at, terminals_of}
use Rattle.lg_parse.specs.ParsingHeads.{EndsHead}
use Rattle.lg_parse.specs.Reading.{terminal_of, terminals_view}
use Rattle.lg_parse.specs.Statements.{HoldsHead}
use Rattle.lg_parse.specs.declared.ends.ParseEnd.TheVariants.{Syntax}
use Rattle.lg_parse.specs.declared.terminals.Terminal.{Terminal as Piece}
use Rattle.lg_blocks.specs.Rows.{Row, MayFollow, last_of}
use Rattle.lg_grammar.specs.Script.{IsSkipped, HoldsLine, IsBad}
use Rattle.lg_grammar.specs.Lines.{IsAtDepth, HoldsNothing, EndsLine, EndsAdding}
use Rattle.lg_grammar.specs.declared.ends.ScriptEnd.{ScriptEnd}
use Rattle.lg_grammar.specs.declared.ends.ScriptEnd.TheVariants as script
use Rattle.lg_grammar.proofs.Held.{line_once, skipped_none}

-- a line that has no tokens, a line whose indentation stands for no depth, and one whose tokens are
-- no head
pub lexes_nothing : (line : List ℕ) → ReadsNone line → HoldsNothing line
lexes_nothing line none = record { not_skipped = none []; no_head = λ d h x. none x.tokens x.lexed }

not_blank : (line : List ℕ) (ts : List Token) → Reads line ts → (ts ≡ [] → ⊥) → IsSkipped line → ⊥
not_blank line ts h some skipped = some (reads_once line ts [] h skipped)

pub indented_nothing : (line : List ℕ) (ts : List Token) → Reads line ts → (ts ≡ [] → ⊥) → ((d : ℕ) → IsAtDepth line d → ⊥) → HoldsNothing line
indented_nothing line ts h some none = record { not_skipped = not_blank line ts h some; no_head = λ d g x. none d (x.indented, x.shallow) }

pub unspelled_nothing : (line : List ℕ) (ts : List Token) → Reads line ts → (ts ≡ [] → ⊥) → EndsHead (terminals_of line ts) Syntax → HoldsNothing line
unspelled_nothing line ts h some none = record {
  not_skipped = not_blank line ts h some;
  no_head = λ d g x. none g (subst (λ (z : List Token). HoldsHead (terminals_of line z) g) (reads_once line x.tokens ts x.lexed h) x.held);
}

pub some_tokens : (ts : List Token) (n : ℕ) → n ≡ length ts → (n ≡ 0 → ⊥) → ts ≡ [] → ⊥
some_tokens ts n count some none =
    let e : length ts ≡ 0 = ap length none in
    some (omega arith)

-- no more nodes than bytes
pub few_nodes : (line : List ℕ) (ts : List Token) (ps : List Piece) (n : ℕ) → terminals_view ps ≡ terminals_of line ts → Reads line ts → n ≤ length ps → n ≤ length line
few_nodes line ts ps n view h few =
    let same : length (terminals_view ps) ≡ length (terminals_of line ts) = ap length view in
    omega (arith, length-map ps terminal_of, length-map ts (terminal_at line), reads_few line ts h)

-- behind any rows a line that holds nothing is bad
pub ends_adding : (number : ℕ) (line : List ℕ) (old : List Row) (e : ScriptEnd) → EndsLine number line e → EndsAdding number line old e
ends_adding number line old (script.Syntax n) h = (h.0, record { not_skipped = h.1.not_skipped; no_place = λ d g x may. h.1.no_head d g x })
ends_adding number line old script.NoMemory h = tt

-- and so is one that may not stand there
pub misplaced : (line : List ℕ) (d : ℕ) (h : HeadTree) (old : List Row) → HoldsLine line d h → (MayFollow (last_of None old) d → ⊥) → IsBad line old
misplaced line d h old x none = record {
  not_skipped = λ s. skipped_none s x;
  no_place = λ e g y may. none (subst (λ (k : ℕ). MayFollow (last_of None old) k) (line_once y x).0 may);
}

-- an error that is handed on
pub err_end : {T E : Type 0} (r : Result T E) (e : E) (P : E → Type 0) → IsErrAnd r (λ y. y ≡ e) → P e → IfErr r P
err_end (Ok x) e P h p = tt
err_end (Err y) e P h p = subst P (sym h) p
