-- The rows that lines hold. A line has one depth and holds one thing, so lines have one list of rows.
use Rattle.std.proofs.Common.{◌≡◌, ℕ, ◌+◌, ◌*◌, List, [], ◌++◌, length, replicate, refl, sym, ap, ◌∙◌, subst, arith}
use Rattle.std.proofs.lemmas.List.{length-replicate}
use Rattle.lg_lex.specs.declared.tokens.Token.{Token}
use Rattle.lg_lex.proofs.LineLemmas.{reads_once}
use Rattle.lg_tree.specs.Heads.{HeadTree}
use Rattle.lg_parse.specs.Lexed.{terminals_of}
use Rattle.lg_parse.specs.Terminal.{Terminal}
use Rattle.lg_parse.specs.Statements.{SpellsHead, a_bind, an_update, a_put, an_update_at, a_print, a_load, a_save, a_loop_to, a_loop, HoldsHead}
use Rattle.lg_parse.proofs.HeadLemmas.{head_once}
use Rattle.lg_blocks.specs.Rows.{Row}
use Rattle.lg_grammar.specs.Script.{IsSkipped, IsIndented, HoldsLine, HoldsRows, ended, skipped, held}

depth_once : (line : List ℕ) (d e : ℕ) → IsIndented d line → IsIndented e line → d ≡ e
depth_once line d e h g =
    let same : length (replicate {A = ℕ} (4 * d) 32) ≡ length (replicate {A = ℕ} (4 * e) 32) = ap length (sym h ∙ g) in
    omega (arith, length-replicate {A = ℕ} (4 * d) 32, length-replicate {A = ℕ} (4 * e) 32)

-- a line has one depth, and holds one thing
pub line_once : {line : List ℕ} {d e : ℕ} {h g : HeadTree} → HoldsLine line d h → HoldsLine line e g → (d ≡ e) × (h ≡ g)
line_once {line} {d} {e} {h} {g} x y =
    let same : HoldsHead (terminals_of line x.tokens) g
    = subst (λ (z : List Token). HoldsHead (terminals_of line z) g) (reads_once line y.tokens x.tokens y.lexed x.lexed) y.held in
    (depth_once line d e x.indented y.indented, head_once (terminals_of line x.tokens) h g x.held same)

some_terminal : {ts : List Terminal} {h : HeadTree} → SpellsHead ts h → ts ≡ [] → ⊥
some_terminal (a_bind w d) e = absurd (cc)
some_terminal (an_update w k o a d) e = absurd (cc)
some_terminal (a_put w d x) e = absurd (cc)
some_terminal (an_update_at w k o a d x) e = absurd (cc)
some_terminal (a_print d) e = absurd (cc)
some_terminal (a_load w file) e = absurd (cc)
some_terminal (a_save file d) e = absurd (cc)
some_terminal (a_loop_to w d) e = absurd (cc)
some_terminal (a_loop w d x) e = absurd (cc)

-- it has a token, so it is not skipped
pub skipped_none : {line : List ℕ} {d : ℕ} {h : HeadTree} → IsSkipped line → HoldsLine line d h → ⊥
skipped_none {line} {d} {h} s x =
    some_terminal x.held.spelled (ap (terminals_of line) (reads_once line x.tokens [] x.lexed s))

-- the rows behind others
pub record Split (m : ℕ) (others : List (List ℕ)) (rows all : List Row) : Type 0 where
  pub more : List Row
  pub is : all ≡ rows ++ more
  pub holds : HoldsRows m others more

pub held_split : {k : ℕ} {front others : List (List ℕ)} {rows all : List Row} → HoldsRows k front rows → HoldsRows k (front ++ others) all → (m : ℕ) → m ≡ k + length front → Split m others rows all
held_split {k = k} {others = others} {all = all} ended g m e =
    let same : k ≡ m = omega arith in
    record { more = all; is = refl; holds = subst (λ (i : ℕ). HoldsRows i others all) same g }
held_split (skipped s h) (skipped t g) m e = held_split h g m (omega arith)
held_split (skipped s h) (held x g) m e = absurd (skipped_none s x)
held_split (held x h) (skipped s g) m e = absurd (skipped_none s x)
held_split {k = k} {others = others} (held {d = d} {h = a} {rows = rows} x h) (held {d = c} {h = b} {rows = all} y g) m e =
    let p : Split m others rows all = held_split h g m (omega arith) in
    let once : (d ≡ c) × (a ≡ b) = line_once x y in
    let depths : d ≡ c = once.0 in
    let heads : a ≡ b = once.1 in
    let behind : all ≡ rows ++ p.more = p.is in
    record { more = p.more; is = cc; holds = p.holds }

-- lines have one list of rows
pub held_once : {k : ℕ} {lines : List (List ℕ)} {a b : List Row} → HoldsRows k lines a → HoldsRows k lines b → a ≡ b
held_once ended ended = refl
held_once (skipped s h) (skipped t g) = held_once h g
held_once (skipped s h) (held x g) = absurd (skipped_none s x)
held_once (held x h) (skipped s g) = absurd (skipped_none s x)
held_once (held {d = d} {h = a} {rows = rows} x h) (held {d = c} {h = b} {rows = all} y g) =
    let once : (d ≡ c) × (a ≡ b) = line_once x y in
    let depths : d ≡ c = once.0 in
    let heads : a ≡ b = once.1 in
    let behind : rows ≡ all = held_once h g in
    cc

-- lines behind others
pub held_append : {k : ℕ} {front others : List (List ℕ)} {rows more : List Row} → HoldsRows k front rows → (m : ℕ) → m ≡ k + length front → HoldsRows m others more → HoldsRows k (front ++ others) (rows ++ more)
held_append {k = k} {others = others} {more = more} ended m e g =
    let same : m ≡ k = omega arith in subst (λ (i : ℕ). HoldsRows i others more) same g
held_append (skipped s h) m e g = skipped s (held_append h m (omega arith) g)
held_append (held x h) m e g = held x (held_append h m (omega arith) g)
