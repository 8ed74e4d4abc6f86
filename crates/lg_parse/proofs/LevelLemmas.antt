-- A level of operators, and the one below it.
use Rattle.std.proofs.Common.{◌≡◌, ℕ, suc, None, ◌-◌, ◌<◌, List, [], length, refl, sym, ap, ◌∙◌, arith}
use Rattle.lg_lex.specs.declared.tokens.TokenKind.TheVariants.{LeftBracket, RightBracket}
use Rattle.lg_tree.specs.Tree.{Tree, ListTree, list}
use Rattle.lg_tree.specs.Measures.{list_height}
use Rattle.lg_tree.specs.View.{list_trees}
use Rattle.lg_parse.specs.declared.rules.Rule.{Rule}
use Rattle.lg_parse.specs.declared.rules.Rule.TheVariants.{Expression, Unary}
use Rattle.lg_parse.specs.Terminal.{Terminal}
use Rattle.lg_parse.specs.Parsing.{Parser, Outcome, ◌>>=◌, ◌>>◌, made, low, expect, unary, expression, level, more, members, entry_by, bracketed, parse}

lowest : (inner : Rule → Parser Tree) (d : ℕ) (ts : List Terminal) → level inner d 0 ts ≡ unary inner d ts
unfolding level
lowest inner d ts = refl

pub level_none : (inner : Rule → Parser Tree) (d : ℕ) (n : ℕ) (ts : List Terminal) → n ≡ 0 → level inner d n ts ≡ unary inner d ts
level_none inner d n ts e = ap (λ (m : ℕ). level inner d m ts) e ∙ lowest inner d ts

next : (inner : Rule → Parser Tree) (d : ℕ) (l : ℕ) (ts : List Terminal) → level inner d (suc l) ts ≡ (level inner d l >>= more (level inner d l) (suc l) (length ts)) ts
unfolding level
next inner d l ts = refl

pub level_some : (inner : Rule → Parser Tree) (d : ℕ) (n : ℕ) (ts : List Terminal) → 0 < n → level inner d n ts ≡ (level inner d (n - 1) >>= more (level inner d (n - 1)) n (length ts)) ts
level_some inner d n ts h =
    let e : n ≡ suc (n - 1) = omega arith in
    ap (λ (m : ℕ). level inner d m ts) e ∙ next inner d (n - 1) ts ∙ ap (λ (m : ℕ). (level inner d (n - 1) >>= more (level inner d (n - 1)) m (length ts)) ts) (sym e)

abbrev nothing : Outcome Tree
nothing = None

abbrev pub no_list : Outcome ListTree
no_list = None

no_depth : (r : Rule) (ts : List Terminal) → parse 0 r ts ≡ nothing
unfolding parse
no_depth r ts = refl

pub parse_none : (n : ℕ) (r : Rule) (ts : List Terminal) → n ≡ 0 → parse n r ts ≡ nothing
parse_none n r ts e = ap (λ (m : ℕ). parse m r ts) e ∙ no_depth r ts

some_expression : (n : ℕ) (ts : List Terminal) → parse (suc n) Expression ts ≡ expression (parse n) n ts
unfolding parse
some_expression n ts = refl

some_unary : (n : ℕ) (ts : List Terminal) → parse (suc n) Unary ts ≡ unary (parse n) n ts
unfolding parse
some_unary n ts = refl

pub parse_expression : (n : ℕ) (r : Rule) (ts : List Terminal) → 0 < n → r ≡ Expression → parse n r ts ≡ expression (parse (n - 1)) (n - 1) ts
parse_expression n r ts h e =
    let more : n ≡ suc (n - 1) = omega arith in
    ap (λ (q : Rule). parse n q ts) e ∙ ap (λ (m : ℕ). parse m Expression ts) more ∙ some_expression (n - 1) ts

pub parse_unary : (n : ℕ) (r : Rule) (ts : List Terminal) → 0 < n → r ≡ Unary → parse n r ts ≡ unary (parse (n - 1)) (n - 1) ts
parse_unary n r ts h e =
    let more : n ≡ suc (n - 1) = omega arith in
    ap (λ (q : Rule). parse n q ts) e ∙ ap (λ (m : ℕ). parse m Unary ts) more ∙ some_unary (n - 1) ts

no_bracketed : (inner : Rule → Parser Tree) (d : ℕ) (ts : List Terminal) → bracketed inner d 0 ts ≡ no_list
unfolding bracketed
no_bracketed inner d ts = refl

-- a list at no depth
pub bracketed_none : (inner : Rule → Parser Tree) (d : ℕ) (n : ℕ) (ts : List Terminal) → n ≡ 0 → bracketed inner d n ts ≡ no_list
bracketed_none inner d n ts e = ap (λ (m : ℕ). bracketed inner d m ts) e ∙ no_bracketed inner d ts

-- a list whose members lie one deeper
abbrev pub bracketed_in : (inner : Rule → Parser Tree) (d : ℕ) (n : ℕ) → Parser ListTree
bracketed_in inner d n = λ ts. (expect LeftBracket >> (members (entry_by inner d (bracketed inner d n)) RightBracket (length ts) [] >>= (λ found. made (low list_height (list (list_trees found)))))) ts

some_bracketed : (inner : Rule → Parser Tree) (d : ℕ) (n : ℕ) (ts : List Terminal) → bracketed inner d (suc n) ts ≡ bracketed_in inner d n ts
unfolding bracketed
some_bracketed inner d n ts = refl

pub bracketed_some : (inner : Rule → Parser Tree) (d : ℕ) (n : ℕ) (ts : List Terminal) → 0 < n → bracketed inner d n ts ≡ bracketed_in inner d (n - 1) ts
bracketed_some inner d n ts h = let e : n ≡ suc (n - 1) = omega arith in ap (λ (m : ℕ). bracketed inner d m ts) e ∙ some_bracketed inner d (n - 1) ts
