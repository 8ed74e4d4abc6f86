-- Bytes that are read as terminals, whatever their places.
use Rattle.std.proofs.Common.{◌≡◌, ℕ, suc, zero, ◌+◌, ◌-◌, ◌<◌, ◌≤◌, inl, inr, List, [], ◌∷◌, ◌++◌, length, get_or, take, drop, map, append-nil, refl, sym, ap, ◌∙◌, subst, arith, IsTrue}
use Rattle.std.proofs.Math.Seq.{drop-append-add, get_or-append_right}
use Rattle.std.proofs.lemmas.List.{get_or-append-add, length-append}
use Rattle.std.proofs.lemmas.Bool.{cases_lt}
use Rattle.lg_lex.specs.Bytes.{is_blank, begins_comment}
use Rattle.lg_lex.specs.Lexical.{Begins}
use Rattle.lg_lex.specs.Line.{token, IsBlank, Stands, Holds, EndsAt, Reads}
use Rattle.lg_lex.specs.declared.tokens.Token.{Token}
use Rattle.lg_lex.specs.declared.tokens.TokenKind.{TokenKind}
use Rattle.lg_parse.specs.Terminal.{Terminal}
use Rattle.lg_parse.specs.Lexed.{terminal_from, terminal_at, terminals_of}
use Rattle.lg_canonical.proofs.Words.{front_taken}

pub record Reading (bytes : List ℕ) (ts : List Terminal) : Type 0 where
  pub tokens : List Token
  pub reads : Reads bytes tokens
  pub are : terminals_of bytes tokens ≡ ts

-- ---- what stands behind other bytes

abbrev shifted : ℕ → Token → Token
shifted n t = token t.kind (n + t.start) (n + t.end)

byte_behind : (front rest : List ℕ) (place : ℕ) → length front ≤ place → get_or (front ++ rest) place 0 ≡ get_or rest (place - length front) 0
byte_behind front rest place h = get_or-append_right front rest place 0 h

blank_behind : (front rest : List ℕ) (from to : ℕ) → IsBlank rest from to → IsBlank (front ++ rest) (length front + from) (length front + to)
blank_behind front rest from to h = record {
  forward = let f : from ≤ to = h.forward in omega arith;
  blank = λ place after before.
      let same : get_or rest (place - length front) 0 ≡ get_or (front ++ rest) place 0 = sym (byte_behind front rest place (omega arith)) in
      subst (λ (b : ℕ). IsTrue (is_blank b)) same (h.blank (place - length front) (omega arith) (omega arith));
}

width : (n from to : ℕ) → (n + to) - (n + from) ≡ to - from
width n from to = omega arith

stands_behind : (front rest : List ℕ) (t : Token) → Stands rest t → Stands (front ++ rest) (shifted (length front) t)
stands_behind front rest t h = record {
  forward = let f : t.start < t.end = h.forward in omega arith;
  within = let w : t.end ≤ length rest = h.within in omega (arith, length-append front rest);
  begins =
      let same : drop t.start rest ≡ drop (length front + t.start) (front ++ rest) = sym (drop-append-add front rest t.start) in
      subst (λ (n : ℕ). Begins (drop (length front + t.start) (front ++ rest)) t.kind n) (sym (width (length front) t.start t.end))
      (subst (λ (bs : List ℕ). Begins bs t.kind (t.end - t.start)) same h.begins);
}

holds_behind : (front rest : List ℕ) (from : ℕ) (ts : List Token) (to : ℕ) → Holds rest from ts to → Holds (front ++ rest) (length front + from) (map (shifted (length front)) ts) (length front + to)
holds_behind front rest from [] to h = blank_behind front rest from to h
holds_behind front rest from (t ∷ ts) to h =
    (blank_behind front rest from t.start h.0, stands_behind front rest t h.1, holds_behind front rest t.end ts to h.2)

ends_behind : (front rest : List ℕ) (place : ℕ) → EndsAt rest place → EndsAt (front ++ rest) (length front + place)
ends_behind front rest place (inl e) = inl (omega (arith, length-append front rest, e))
ends_behind front rest place (inr h) =
    inr (omega (arith, length-append front rest, h.0), subst (λ (b : ℕ). IsTrue (begins_comment b)) (sym (get_or-append-add front rest place 0)) h.1)

terminal_behind : (front rest : List ℕ) (t : Token) → terminal_at (front ++ rest) (shifted (length front) t) ≡ terminal_at rest t
terminal_behind front rest t =
    ap (λ (n : ℕ). terminal_from t.kind (take n (drop (length front + t.start) (front ++ rest)))) (width (length front) t.start t.end)
    ∙ ap (λ (bs : List ℕ). terminal_from t.kind (take (t.end - t.start) bs)) (drop-append-add front rest t.start)

terminals_behind : (front rest : List ℕ) (ts : List Token) → terminals_of (front ++ rest) (map (shifted (length front)) ts) ≡ terminals_of rest ts
terminals_behind front rest [] = refl
terminals_behind front rest (t ∷ ts) =
    ap (λ (x : Terminal). x ∷ terminals_of (front ++ rest) (map (shifted (length front)) ts)) (terminal_behind front rest t)
    ∙ ap (λ (xs : List Terminal). terminal_at rest t ∷ xs) (terminals_behind front rest ts)

-- ---- blanks in front

blanks : (line : List ℕ) (a b c : ℕ) → IsBlank line a b → IsBlank line b c → IsBlank line a c
blanks line a b c h g = record {
  forward = let f : a ≤ b = h.forward in let s : b ≤ c = g.forward in omega arith;
  blank = λ place after before. elim (cases_lt place b) [
    | inl less ↦ h.blank place after less
    | inr more ↦ g.blank place more before
  ];
}

blanks_first : (line : List ℕ) (a b : ℕ) (ts : List Token) (to : ℕ) → IsBlank line a b → Holds line b ts to → Holds line a ts to
blanks_first line a b [] to h g = blanks line a b to h g
blanks_first line a b (t ∷ ts) to h g = (blanks line a b t.start h g.0, g.1, g.2)

no_blank : (line : List ℕ) (a : ℕ) → IsBlank line a a
no_blank line a = record { forward = omega arith; blank = λ place after before. absurd (omega arith) }

first_blank : (rest : List ℕ) (place : ℕ) → 0 ≤ place → place < 1 → IsTrue (is_blank (get_or (32 ∷ rest) place 0))
first_blank rest zero after before = refl
first_blank rest (suc place) after before = absurd (omega arith)

a_blank : (rest : List ℕ) → IsBlank (32 ∷ rest) 0 1
a_blank rest = record { forward = omega arith; blank = first_blank rest }

-- ---- readings

pub empty_read : Reads [] []
empty_read = record { end = 0; holds = no_blank [] 0; ends = inl refl }

pub nothing : Reading [] []
nothing = record { tokens = []; reads = empty_read; are = refl }

pub space_first : (rest : List ℕ) (ts : List Terminal) → Reading rest ts → Reading (32 ∷ rest) ts
space_first rest ts r = record {
  tokens = map (shifted 1) r.tokens;
  reads = record {
    end = 1 + r.reads.end;
    holds = blanks_first (32 ∷ rest) 0 1 (map (shifted 1) r.tokens) (1 + r.reads.end) (a_blank rest) (holds_behind (32 ∷ []) rest 0 r.tokens r.reads.end r.reads.holds);
    ends = ends_behind (32 ∷ []) rest r.reads.end r.reads.ends;
  };
  are = terminals_behind (32 ∷ []) rest r.tokens ∙ r.are;
}

all_of : (n : ℕ) → n - 0 ≡ n
all_of n = omega arith

first_stands : (k : TokenKind) (text rest : List ℕ) → 0 < length text → Begins (text ++ rest) k (length text) → Stands (text ++ rest) (token k 0 (length text))
first_stands k text rest some h = record {
  forward = some;
  within = h.within;
  begins = subst (λ (n : ℕ). Begins (text ++ rest) k n) (omega arith) h;
}

-- a token in front of other bytes
pub token_first : (k : TokenKind) (text rest : List ℕ) (ts : List Terminal) → 0 < length text → Begins (text ++ rest) k (length text) → Reading rest ts → Reading (text ++ rest) (terminal_from k text ∷ ts)
token_first k text rest ts some h r = record {
  tokens = token k 0 (length text) ∷ map (shifted (length text)) r.tokens;
  reads = record {
    end = length text + r.reads.end;
    holds = (
      no_blank (text ++ rest) 0,
      first_stands k text rest some h,
      subst (λ (n : ℕ). Holds (text ++ rest) n (map (shifted (length text)) r.tokens) (length text + r.reads.end)) (omega arith) (holds_behind text rest 0 r.tokens r.reads.end r.reads.holds),
    );
    ends = ends_behind text rest r.reads.end r.reads.ends;
  };
  are = ap (λ (n : ℕ). terminal_from k (take n (text ++ rest)) ∷ terminals_of (text ++ rest) (map (shifted (length text)) r.tokens)) (all_of (length text))
      ∙ ap (λ (bs : List ℕ). terminal_from k bs ∷ terminals_of (text ++ rest) (map (shifted (length text)) r.tokens)) (front_taken text rest)
      ∙ ap (λ (xs : List Terminal). terminal_from k text ∷ xs) (terminals_behind text rest r.tokens ∙ r.are);
}

-- the same without what stands behind
pub whole_line : (text : List ℕ) (ts : List Terminal) → Reading (text ++ []) ts → Reading text ts
whole_line text ts r = subst (λ (bs : List ℕ). Reading bs ts) (append-nil text) r
