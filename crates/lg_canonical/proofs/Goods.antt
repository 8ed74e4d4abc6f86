-- Terminals that tokens can be: names are words that are not reserved, numbers are in their range.
use Rattle.std.proofs.Common.{◌≡◌, ◌≤◌, ℕ, Option, None, Some, List, [], ◌∷◌, take, drop, ◌-◌, refl, sym, ap, ◌∙◌, subst}
use Rattle.std.specs.Prelude.{⊤}
use Rattle.std.specs.Str.Parse.{digits_value}
use Rattle.lg_lex.specs.Lexical.{IsWord, HasText, MAX_NUMBER}
use Rattle.lg_lex.specs.Line.{Stands, Holds, Reads}
use Rattle.lg_lex.specs.declared.tokens.Token.{Token}
use Rattle.lg_lex.specs.declared.tokens.TokenKind.{TokenKind}
use Rattle.lg_lex.specs.declared.tokens.TokenKind.TheVariants.{Word, Number}
use Rattle.lg_lex.proofs.DecimalLemmas.{decimal_value}
use Rattle.lg_parse.specs.declared.words.Keyword.{Keyword}
use Rattle.lg_parse.specs.declared.words.Keyword.TheVariants.{Itself, Element, Call}
use Rattle.lg_parse.specs.Keywords.{keyword_of}
use Rattle.lg_parse.specs.Terminal.{Terminal, name, number}
use Rattle.lg_parse.specs.Lexed.{word_from, terminal_from, terminal_at, terminals_of}

abbrev pub IsGood : Terminal → Type 0
IsGood (name w) = IsWord w × (terminal_from Word w ≡ name w)
IsGood (number n) = n ≤ MAX_NUMBER
IsGood _ = ⊤

abbrev pub AreGood : List Terminal → Type 0
AreGood [] = ⊤
AreGood (t ∷ ts) = IsGood t × AreGood ts

word_good : (w : List ℕ) (o : Option Keyword) → keyword_of w ≡ o → IsWord w → IsGood (word_from o w)
word_good w None e h = (h, ap (λ (o : Option Keyword). word_from o w) e)
word_good w (Some (Itself x)) e h = tt
word_good w (Some (Element x)) e h = tt
word_good w (Some (Call x)) e h = tt

text_good : (k : TokenKind) (text : List ℕ) → HasText k text → IsGood (terminal_from k text)
text_good Word text h = word_good text (keyword_of text) refl h
text_good Number text h = subst (λ (n : ℕ). n ≤ MAX_NUMBER) (sym (ap (digits_value 10) h.1.1 ∙ decimal_value h.0 h.1.0)) h.1.0
text_good k text h = tt

token_good : (line : List ℕ) (t : Token) → Stands line t → IsGood (terminal_at line t)
token_good line t h = text_good t.kind (take (t.end - t.start) (drop t.start line)) h.begins.text

tokens_good : (line : List ℕ) (from : ℕ) (ts : List Token) (to : ℕ) → Holds line from ts to → AreGood (terminals_of line ts)
tokens_good line from [] to h = tt
tokens_good line from (t ∷ ts) to h = (token_good line t h.1, tokens_good line t.end ts to h.2)

pub are_good : (line : List ℕ) (ts : List Token) → Reads line ts → AreGood (terminals_of line ts)
are_good line ts h = tokens_good line 0 ts h.end h.holds
