-- Texts that are read as terminals, whatever stands behind them.
use Rattle.std.proofs.Common.{◌≡◌, ℕ, ◌<◌, ◌≤◌, true, List, [], ◌∷◌, ◌++◌, length, decimal, refl, sym, ap, ◌∙◌, subst, append_assoc}
use Rattle.std.specs.Prelude.{⊤}
use Rattle.lg_lex.specs.Lexical.{IsWord, BeginsApart, Begins, MAX_NUMBER}
use Rattle.lg_lex.specs.declared.tokens.TokenKind.{TokenKind}
use Rattle.lg_lex.specs.declared.tokens.TokenKind.TheVariants.{Word, Number}
use Rattle.lg_lex.proofs.DecimalLemmas.{decimal_some, decimal_value}
use Rattle.lg_parse.specs.Terminal.{Terminal, number}
use Rattle.lg_parse.specs.Lexed.{terminal_from}
use Rattle.lg_canonical.proofs.Readings.{Reading, space_first, token_first}
use Rattle.lg_canonical.proofs.Words.{word_first, word_some, number_first, is_flat, word_flat, number_flat, flat_append}

-- terminals in front of others
abbrev pub Put : Type 0
Put = List Terminal → List Terminal

abbrev pub Anything : List ℕ → Type 0
Anything bytes = ⊤

-- before bytes with this property, which are read as terminals, the text is read as these
pub record Runs (before : List ℕ → Type 0) (text : List ℕ) (put : Put) : Type 0 where
  pub run : (rest : List ℕ) (ts : List Terminal) → before rest → Reading rest ts → Reading (text ++ rest) (put ts)
  pub flat : is_flat text ≡ true

-- one text behind another
pub then : {P Q : List ℕ → Type 0} {a b : List ℕ} {f g : Put} → Runs P a f → Runs Q b g → ((rest : List ℕ) → Q rest → P (b ++ rest)) → Runs Q (a ++ b) (λ ts. f (g ts))
then {P} {Q} {a} {b} {f} {g} x y edge = record {
  run = λ rest ts q r. subst (λ (bs : List ℕ). Reading bs (f (g ts))) (sym (append_assoc a b rest)) (x.run (b ++ rest) (g ts) (edge rest q) (y.run rest ts q r));
  flat = flat_append a b x.flat y.flat;
}

pub lead : {Q : List ℕ → Type 0} {a b : List ℕ} {f g : Put} → Runs Anything a f → Runs Q b g → Runs Q (a ++ b) (λ ts. f (g ts))
lead x y = then x y (λ rest q. tt)

pub anywhere : {P : List ℕ → Type 0} {a : List ℕ} {f : Put} → Runs Anything a f → Runs P a f
anywhere x = record { run = λ rest ts p r. x.run rest ts tt r; flat = x.flat }

pub no_text : {P : List ℕ → Type 0} → Runs P [] (λ ts. ts)
no_text = record { run = λ rest ts p r. r; flat = refl }

pub a_space : Runs Anything (32 ∷ []) (λ ts. ts)
a_space = record { run = λ rest ts p r. space_first rest ts r; flat = refl }

-- a token
pub a_token : (P : List ℕ → Type 0) (k : TokenKind) (text : List ℕ) (t : Terminal) → is_flat text ≡ true → 0 < length text → terminal_from k text ≡ t → ((rest : List ℕ) → P rest → Begins (text ++ rest) k (length text)) → Runs P text (λ ts. t ∷ ts)
a_token P k text t flat some e begins = record {
  run = λ rest ts p r. subst (λ (x : Terminal). Reading (text ++ rest) (x ∷ ts)) e (token_first k text rest ts some (begins rest p) r);
  flat = flat;
}

pub a_word : (w : List ℕ) (t : Terminal) → IsWord w → terminal_from Word w ≡ t → Runs BeginsApart w (λ ts. t ∷ ts)
a_word w t h e = a_token BeginsApart Word w t (word_flat w h) (word_some w h) e (λ rest g. word_first w rest h g)

pub a_number : (n : ℕ) → n ≤ MAX_NUMBER → Runs BeginsApart (decimal n) (λ ts. number n ∷ ts)
a_number n low =
    a_token BeginsApart Number (decimal n) (number n) (number_flat n low) (decimal_some n low) (ap number (decimal_value n low)) (λ rest g. number_first n rest low g)
