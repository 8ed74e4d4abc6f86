-- For how many blocks the blanks in front of a line stand.
use Rattle.std.proofs.Common.{◌≡◌, ℕ, zero, suc, ◌+◌, ◌*◌, ◌/◌, ◌%◌, ◌<◌, ◌≤◌, Bool, true, false, cond, ◌||◌, eqb, List, [], ◌∷◌, replicate, drop, refl, sym, ap, ◌∙◌, arith, one-add}
use Rattle.std.specs.List.{prefix_len}
use Rattle.std.proofs.lemmas.Bool.{false≢true, eqb-true}
use Rattle.std.proofs.lemmas.Bool.Decides.{Decides-eqb}
use Rattle.std.proofs.lemmas.List.Sums.{take_while-cons}
use Rattle.lg_lex.specs.Bytes.{is_blank}
use Rattle.lg_grammar.specs.Script.{indentation}
use Rattle.lg_grammar.specs.Lines.{begins_blank, IsAtDepth}

abbrev is_space : ℕ → Bool
is_space b = eqb b 32

-- spaces with no blank behind them are the indentation
spaces_at : (x : ℕ) (xs : List ℕ) (n : ℕ) (t u : Bool) → (t ≡ true → x ≡ 32) → (begins_blank (drop n xs) ≡ false → indentation xs ≡ replicate n 32) → is_blank x ≡ (t || u) → begins_blank (drop (cond t (1 + n) 0) (x ∷ xs)) ≡ false → cond (t || u) (x ∷ indentation xs) [] ≡ replicate (cond t (1 + n) 0) 32
spaces_at x xs n true u s h b e =
    let behind : begins_blank (drop n xs) ≡ false = rw one-add at e in
    let first : x ≡ 32 = s refl in
    let more : indentation xs ≡ replicate n 32 = h behind in
    rw one-add (ap (λ (z : ℕ). z ∷ indentation xs) first ∙ ap (λ (z : List ℕ). 32 ∷ z) more)
spaces_at x xs n false true s h b e = absurd (false≢true (sym e ∙ b))
spaces_at x xs n false false s h b e = refl

pub spaces_indent : (line : List ℕ) → begins_blank (drop (prefix_len is_space line) line) ≡ false → indentation line ≡ replicate (prefix_len is_space line) 32
spaces_indent [] e = refl
spaces_indent (x ∷ xs) e = take_while-cons is_blank x xs ∙ spaces_at x xs (prefix_len is_space xs) (eqb x 32) (eqb x 9) (eqb-true x 32) (spaces_indent xs) refl e

-- and where the indentation is spaces, they are those in front, with no blank behind them
none_at : (x : ℕ) (xs : List ℕ) (n : ℕ) (t u : Bool) → cond (t || u) (x ∷ xs) [] ≡ [] → (cond t (1 + n) 0 ≡ 0) × ((t || u) ≡ false)
none_at x xs n true u e = absurd (let none : ⊥ = cc in none)
none_at x xs n false true e = absurd (let none : ⊥ = cc in none)
none_at x xs n false false e = (refl, refl)

one_at : (x : ℕ) (xs more : List ℕ) (n : ℕ) (t u : Bool) → (x ≡ 32 → t ≡ true) → cond (t || u) (x ∷ xs) [] ≡ 32 ∷ more → (xs ≡ more) × (cond t (1 + n) 0 ≡ suc n)
one_at x xs more n true u s e = (let same : xs ≡ more = cc in same, let one : 1 + n ≡ suc n = omega arith in one)
one_at x xs more n false true s e = absurd (false≢true (s (let same : x ≡ 32 = cc in same)))
one_at x xs more n false false s e = absurd (let none : ⊥ = cc in none)

spaces_are : (line : List ℕ) (n : ℕ) → indentation line ≡ replicate n 32 → (prefix_len is_space line ≡ n) × (begins_blank (drop n line) ≡ false)
spaces_are [] zero e = (refl, refl)
spaces_are [] (suc n) e = absurd (let none : ⊥ = cc in none)
spaces_are (x ∷ xs) zero e = none_at x (indentation xs) (prefix_len is_space xs) (eqb x 32) (eqb x 9) (sym (take_while-cons is_blank x xs) ∙ e)
spaces_are (x ∷ xs) (suc n) e =
    let p = one_at x (indentation xs) (replicate n 32) (prefix_len is_space xs) (eqb x 32) (eqb x 9) (Decides-eqb x 32).1 (sym (take_while-cons is_blank x xs) ∙ e) in
    let q = spaces_are xs n p.0 in
    (p.1 ∙ ap suc q.0, q.1)

-- what the spaces in front say of the depth
pub at_depth : (line rest : List ℕ) (n : ℕ) → n ≡ prefix_len is_space line → rest ≡ drop n line → begins_blank rest ≡ false → n % 4 ≡ 0 → n / 4 ≤ 16 → IsAtDepth line (n / 4)
at_depth line rest n run e b whole few =
    let behind : begins_blank (drop (prefix_len is_space line) line) ≡ false = ap (λ (i : ℕ). begins_blank (drop i line)) (sym run) ∙ ap begins_blank (sym e) ∙ b in
    let count : prefix_len is_space line ≡ 4 * (n / 4) = omega arith in
    (spaces_indent line behind ∙ ap (λ (i : ℕ). replicate i 32) count, few)

pub blank_behind : (line rest : List ℕ) (n : ℕ) → n ≡ prefix_len is_space line → rest ≡ drop n line → begins_blank rest ≡ true → (d : ℕ) → IsAtDepth line d → ⊥
blank_behind line rest n run e b d p =
    let q = spaces_are line (4 * d) p.0 in
    false≢true (sym q.1 ∙ ap (λ (i : ℕ). begins_blank (drop i line)) (sym q.0 ∙ sym run) ∙ ap begins_blank (sym e) ∙ b)

pub no_blocks : (line : List ℕ) (n : ℕ) → n ≡ prefix_len is_space line → (n % 4 ≡ 0 → 16 < n / 4) → (d : ℕ) → IsAtDepth line d → ⊥
no_blocks line n run odd d p =
    let count : prefix_len is_space line ≡ 4 * d = (spaces_are line (4 * d) p.0).0 in
    let few : d ≤ 16 = p.1 in
    let whole : n % 4 ≡ 0 = omega arith in
    let deep : 16 < n / 4 = odd whole in
    omega arith
