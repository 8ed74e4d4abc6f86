-- The tokens of a line, from its front: how they grow, and that they are determined.
use Rattle.std.proofs.Common.{◌≡◌, ℕ, zero, suc, ◌+◌, ◌-◌, ◌<◌, ◌≤◌, true, false, inl, inr, List, [], ◌∷◌, ◌++◌, length, get_or, drop, refl, sym, ap, ap₂, ◌∙◌, subst, arith, le_refl}
use Rattle.std.specs.List.{All}
use Rattle.std.proofs.lemmas.List.{drop_all}
use Rattle.std.proofs.lemmas.List.Elements.{All-push}
use Rattle.std.proofs.lemmas.Bool.{both_ways, cases_order, cases_eq}
use Rattle.std.proofs.lemmas.Bool.Decides.{nat_tests}
use Rattle.lg_lex.specs.Bytes.{is_blank, begins_comment}
use Rattle.lg_lex.specs.Lexical.{Begins, BeginsNone}
use Rattle.lg_lex.specs.Line.{IsBlank, Stands, Holds, EndsAt, Reads, ReadsNone, IsFault, token}
use Rattle.lg_lex.specs.declared.tokens.Token.{Token}
use Rattle.lg_lex.specs.declared.tokens.TokenKind.{TokenKind}
use Rattle.lg_lex.proofs.FrontLemmas.{count_once, begins_kind, begins_solid, begins_some, comment_none}

no_blanks : (line : List ℕ) (place : ℕ) → IsBlank line place place
no_blanks line place = record { forward = le_refl place; blank = λ i after before. absurd (omega arith) }

pub holds_nothing : (line : List ℕ) → Holds line 0 [] 0
holds_nothing line = no_blanks line 0

more_blanks : (line : List ℕ) (from to : ℕ) → is_blank (get_or line to 0) ≡ true → IsBlank line from to → IsBlank line from (to + 1)
more_blanks line from to e h = record {
  forward = omega (arith, h.forward);
  blank = λ i after before. elim (cases_eq i to) [
    | inl same ↦ ap (λ (j : ℕ). is_blank (get_or line j 0)) same ∙ e
    | inr other ↦ h.blank i after (omega arith)
  ];
}

-- a blank more
pub holds_blank : (line : List ℕ) (from : ℕ) (tokens : List Token) (to : ℕ) → is_blank (get_or line to 0) ≡ true → Holds line from tokens to → Holds line from tokens (to + 1)
holds_blank line from [] to e h = more_blanks line from to e h
holds_blank line from (t ∷ tokens) to e h = (h.0, h.1, holds_blank line t.end tokens to e h.2)

-- a token more
pub holds_token : (line : List ℕ) (from : ℕ) (tokens : List Token) (next : Token) → Stands line next → Holds line from tokens next.start → Holds line from (tokens ++ next ∷ []) next.end
holds_token line from [] next s h = (h, s, no_blanks line next.end)
holds_token line from (t ∷ tokens) next s h = (h.0, h.1, holds_token line t.end tokens next s h.2)

-- where tokens stop: no blank and no token stands there
pub record Stops (line : List ℕ) (place : ℕ) : Type 0 where
  pub solid : is_blank (get_or line place 0) ≡ false
  pub none : BeginsNone (drop place line)

head_at : (line : List ℕ) (place : ℕ) → get_or (drop place line) 0 0 ≡ get_or line place 0
head_at [] zero = refl
head_at [] (suc place) = refl
head_at (b ∷ line) zero = refl
head_at (b ∷ line) (suc place) = head_at line place

token_solid : (line : List ℕ) (t : Token) → Stands line t → is_blank (get_or line t.start 0) ≡ false
token_solid line t h = ap is_blank (sym (head_at line t.start)) ∙ begins_solid (drop t.start line) t.kind (t.end - t.start) h.begins

-- blanks end at one place
blanks_once : (line : List ℕ) (from a b : ℕ) → is_blank (get_or line a 0) ≡ false → is_blank (get_or line b 0) ≡ false → IsBlank line from a → IsBlank line from b → a ≡ b
blanks_once line from a b p q h g =
    elim (cases_order a b) [
      | inl same ↦ same
      | inr other ↦ elim other [
        | inl less ↦ absurd (both_ways _ p (g.blank a h.forward less))
        | inr more ↦ absurd (both_ways _ q (h.blank b g.forward more))
      ]
    ]

stands_begins : (line : List ℕ) (t : Token) (place : ℕ) → place ≡ t.start → Stands line t → Begins (drop place line) t.kind (t.end - t.start)
stands_begins line t place e h = subst (λ (i : ℕ). Begins (drop i line) t.kind (t.end - t.start)) (sym e) h.begins

-- one token stands at a place
token_once : (line : List ℕ) (s t : Token) → s.start ≡ t.start → Stands line s → Stands line t → s ≡ t
token_once line s t e h g =
    let b = stands_begins line t s.start e g in
    let kind : s.kind ≡ t.kind = begins_kind (drop s.start line) s.kind t.kind (s.end - s.start) (t.end - t.start) h.begins b in
    let count : s.end - s.start ≡ t.end - t.start = count_once (drop s.start line) s.kind t.kind (s.end - s.start) (t.end - t.start) h.begins b in
    let forward : s.start < s.end = h.forward in
    let along : t.start < t.end = g.forward in
    let end : s.end ≡ t.end = omega arith in
    ap (λ (k : TokenKind). token k s.start s.end) kind ∙ ap (λ (i : ℕ). token t.kind i s.end) e ∙ ap (λ (i : ℕ). token t.kind t.start i) end

-- tokens up to where they stop are determined, and so is where they stop
pub record Same (a b : List Token) (p q : ℕ) : Type 0 where
  pub tokens : a ≡ b
  pub place : p ≡ q

pub holds_once : (line : List ℕ) (from : ℕ) (a b : List Token) (p q : ℕ) → Stops line p → Stops line q → Holds line from a p → Holds line from b q → Same a b p q
holds_once line from [] [] p q x y h g = record { tokens = refl; place = blanks_once line from p q x.solid y.solid h g }
holds_once line from [] (t ∷ b) p q x y h g =
    let same : p ≡ t.start = blanks_once line from p t.start x.solid (token_solid line t g.1) h g.0 in
    absurd (x.none t.kind (t.end - t.start) (stands_begins line t p same g.1))
holds_once line from (s ∷ a) [] p q x y h g =
    let same : q ≡ s.start = blanks_once line from q s.start y.solid (token_solid line s h.1) g h.0 in
    absurd (y.none s.kind (s.end - s.start) (stands_begins line s q same h.1))
holds_once line from (s ∷ a) (t ∷ b) p q x y h g =
    let start : s.start ≡ t.start = blanks_once line from s.start t.start (token_solid line s h.1) (token_solid line t g.1) h.0 g.0 in
    let same : s ≡ t = token_once line s t start h.1 g.1 in
    let next : Holds line s.end b q = subst (λ (i : ℕ). Holds line i b q) (sym (ap (λ (z : Token). z.end) same)) g.2 in
    let more = holds_once line s.end a b p q x y h.2 next in
    record { tokens = ap₂ (λ (z : Token) (zs : List Token). z ∷ zs) same more.tokens; place = more.place }

-- the end of a line, the beginning of a comment and a fault are such places
beyond_solid : (line : List ℕ) → is_blank (get_or line (length line) 0) ≡ false
beyond_solid [] = refl
beyond_solid (b ∷ line) = beyond_solid line

nothing_begins : (bytes : List ℕ) → bytes ≡ [] → BeginsNone bytes
nothing_begins bytes e k n h =
    let some : 0 < n = begins_some bytes k n h in
    let within : n ≤ length bytes = h.within in
    let none : length bytes ≡ 0 = ap length e in
    omega arith

stops_line : (line : List ℕ) → Stops line (length line)
stops_line line = record { solid = beyond_solid line; none = nothing_begins (drop (length line) line) (drop_all (length line) line (le_refl (length line))) }

hash_solid : (b : ℕ) → begins_comment b ≡ true → is_blank b ≡ false
hash_solid b h = grind (arith, nat_tests)

stops_comment : (line : List ℕ) (place : ℕ) → begins_comment (get_or line place 0) ≡ true → Stops line place
stops_comment line place h = record {
  solid = hash_solid (get_or line place 0) h;
  none = comment_none (drop place line) (ap begins_comment (head_at line place) ∙ h);
}

stops_end : (line : List ℕ) (place : ℕ) → EndsAt line place → Stops line place
stops_end line place h =
    elim h [
      | inl end ↦ subst (Stops line) (sym end) (stops_line line)
      | inr comment ↦ stops_comment line place comment.1
    ]

stops_fault : (line : List ℕ) (place : ℕ) → IsFault line place → Stops line place
stops_fault line place h = record { solid = h.solid; none = h.none }

pub reads_once : (line : List ℕ) (a b : List Token) → Reads line a → Reads line b → a ≡ b
reads_once line a b h g = (holds_once line 0 a b h.end g.end (stops_end line h.end h.ends) (stops_end line g.end g.ends) h.holds g.holds).tokens

pub fault_once : (line : List ℕ) (a b : ℕ) → IsFault line a → IsFault line b → a ≡ b
fault_once line a b h g = (holds_once line 0 h.front g.front a b (stops_fault line a h) (stops_fault line b g) h.holds g.holds).place

pub fault_none : (line : List ℕ) (place : ℕ) → IsFault line place → ReadsNone line
fault_none line place h tokens g =
    let same : place ≡ g.end = (holds_once line 0 h.front tokens place g.end (stops_fault line place h) (stops_end line g.end g.ends) h.holds g.holds).place in
    let inside : place < length line = h.inside in
    elim g.ends [
      | inl end ↦ absurd (omega arith)
      | inr comment ↦ both_ways _ h.plain (ap (λ (i : ℕ). begins_comment (get_or line i 0)) same ∙ comment.1)
    ]

-- each is a token of the line, and there are no more than bytes
pub stands_push : (line : List ℕ) (done new : List Token) (next : Token) → new ≡ done ++ next ∷ [] → Stands line next → All (Stands line) done → All (Stands line) new
stands_push line done new next e s h = subst (λ (z : List Token). All (Stands line) z) (sym e) (All-push (Stands line) done next h s)

pub holds_few : (line : List ℕ) (from : ℕ) (tokens : List Token) (to : ℕ) → Holds line from tokens to → from + length tokens ≤ to
holds_few line from [] to h = omega (arith, h.forward)
holds_few line from (t ∷ tokens) to h =
    let more : t.end + length tokens ≤ to = holds_few line t.end tokens to h.2 in
    let blanks : from ≤ t.start = h.0.forward in
    let forward : t.start < t.end = h.1.forward in
    omega arith

pub reads_few : (line : List ℕ) (tokens : List Token) → Reads line tokens → length tokens ≤ length line
reads_few line tokens h =
    let few : length tokens ≤ h.end = omega (arith, holds_few line 0 tokens h.end h.holds) in
    elim h.ends [
      | inl end ↦ omega arith
      | inr comment ↦ let inside : h.end < length line = comment.0 in omega arith
    ]
