-- A word among several lists of words.
use Rattle.std.proofs.Common.{◌≡◌, ℕ, Bool, true, false, cond, Option, None, Some, List, [], ◌∷◌, ◌++◌, refl, ◌∙◌, bytes_eq}
use Rattle.lg_parse.specs.declared.words.Keyword.{Keyword}
use Rattle.lg_parse.specs.Keywords.{found_in, keyword_of, python_words, language_words, function_words}

front_at : (k : Keyword) (b : Bool) (x : Keyword) (o o' : Option Keyword) → (o ≡ Some k → o' ≡ Some k) → cond b (Some x) o ≡ Some k → cond b (Some x) o' ≡ Some k
front_at k true x o o' h e = e
front_at k false x o o' h e = h e

in_front : (w : List ℕ) (xs ys : List (List ℕ × Keyword)) (k : Keyword) → found_in w xs ≡ Some k → found_in w (xs ++ ys) ≡ Some k
in_front w [] ys k e = absurd (cc)
in_front w (x ∷ xs) ys k e = front_at k (bytes_eq w x.0) x.1 (found_in w xs) (found_in w (xs ++ ys)) (in_front w xs ys k) e

behind_at : (b : Bool) (x : Keyword) (o o' q : Option Keyword) → (o ≡ None → o' ≡ q) → cond b (Some x) o ≡ None → cond b (Some x) o' ≡ q
behind_at true x o o' q h e = absurd (cc)
behind_at false x o o' q h e = h e

behind : (w : List ℕ) (xs ys : List (List ℕ × Keyword)) → found_in w xs ≡ None → found_in w (xs ++ ys) ≡ found_in w ys
behind w [] ys e = refl
behind w (x ∷ xs) ys e = behind_at (bytes_eq w x.0) x.1 (found_in w xs) (found_in w (xs ++ ys)) (found_in w ys) (behind w xs ys) e

pub in_first : (w : List ℕ) (k : Keyword) → found_in w python_words ≡ Some k → keyword_of w ≡ Some k
unfolding keyword_of
in_first w k e = in_front w python_words (language_words ++ function_words) k e

pub in_second : (w : List ℕ) (k : Keyword) → found_in w python_words ≡ None → found_in w language_words ≡ Some k → keyword_of w ≡ Some k
unfolding keyword_of
in_second w k n e = behind w python_words (language_words ++ function_words) n ∙ in_front w language_words function_words k e

pub in_third : (w : List ℕ) → found_in w python_words ≡ None → found_in w language_words ≡ None → keyword_of w ≡ found_in w function_words
unfolding keyword_of
in_third w n m = behind w python_words (language_words ++ function_words) n ∙ behind w language_words function_words m
