-- The lines of bytes, cut at the end of the first one.
use Rattle.std.proofs.Common.{◌≡◌, ℕ, suc, ◌+◌, ◌-◌, ◌≤◌, Bool, true, false, cond, not, ltb, leb, eqb, List, [], ◌∷◌, length, map, take, drop, refl, sym, ap, ◌∙◌, subst, arith, one-add, drop-drop, length-drop}
use Rattle.std.specs.List.{slice_split, prefix_len, onto_first, slice_range}
use Rattle.std.proofs.lemmas.Bool.{cond-true, le-leb, lt-ltb}
use Rattle.std.proofs.lemmas.Bool.Decides.{nat_tests}
use Rattle.lg_lex.specs.Bytes.{without_return}
use Rattle.lg_grammar.specs.Script.{lines_of}
use Rattle.lg_grammar.specs.Lines.{lines_from}

abbrev ends_no_line : ℕ → Bool
ends_no_line b = not (eqb b 10)

-- the lines with their bytes 13
abbrev pieces : List ℕ → List (List ℕ)
pieces bytes = slice_split (λ b. eqb b 10) bytes

abbrev behind : List ℕ → ℕ → List (List ℕ)
behind xs n = cond (ltb n (length xs)) (pieces (drop (suc n) xs)) []

ltb_suc : (n m : ℕ) → ltb (suc n) (suc m) ≡ ltb n m
ltb_suc n m = grind (arith, nat_tests)

cut_at : (x : ℕ) (xs : List ℕ) (n : ℕ) (t : Bool) → pieces xs ≡ take n xs ∷ behind xs n → cond t ([] ∷ pieces xs) (onto_first x (pieces xs)) ≡ take (cond (not t) (1 + n) 0) (x ∷ xs) ∷ behind (x ∷ xs) (cond (not t) (1 + n) 0)
cut_at x xs n true h = ap (λ (z : List (List ℕ)). [] ∷ z) (sym (cond-true (ltb 0 (length (x ∷ xs))) (pieces xs) [] (lt-ltb 0 (length (x ∷ xs)) (omega arith))))
cut_at x xs n false h =
    rw one-add (ap (onto_first x) h ∙ ap (λ (t : Bool). (x ∷ take n xs) ∷ cond t (pieces (drop (suc n) xs)) []) (sym (ltb_suc n (length xs))))

cut_first : (xs : List ℕ) → pieces xs ≡ take (prefix_len ends_no_line xs) xs ∷ behind xs (prefix_len ends_no_line xs)
cut_first [] = refl
cut_first (x ∷ xs) = cut_at x xs (prefix_len ends_no_line xs) (eqb x 10) (cut_first xs)

tested : (bytes : List ℕ) (start n : ℕ) → start ≤ length bytes → ltb n (length (drop start bytes)) ≡ leb (start + n + 1) (length bytes)
tested bytes start n inside =
    let count : length (drop start bytes) ≡ length bytes - start = length-drop start bytes in
    grind (arith, nat_tests)

without : (t : Bool) (xs : List (List ℕ)) → map without_return (cond t xs []) ≡ cond t (map without_return xs) []
without true xs = refl
without false xs = refl

-- from a place on
pub cut_from : (bytes rest : List ℕ) (start n : ℕ) → start ≤ length bytes → rest ≡ drop start bytes → n ≡ prefix_len ends_no_line rest → lines_from bytes start ≡ without_return (slice_range bytes start (start + n)) ∷ lines_from bytes (start + n + 1)
cut_from bytes rest start n inside e run =
    let here : lines_from bytes start ≡ lines_of (drop start bytes) = cond-true _ _ _ (le-leb start (length bytes) inside) in
    let count : n ≡ prefix_len ends_no_line (drop start bytes) = run ∙ ap (prefix_len ends_no_line) e in
    let cut : pieces (drop start bytes) ≡ take n (drop start bytes) ∷ behind (drop start bytes) n = subst (λ (i : ℕ). pieces (drop start bytes) ≡ take i (drop start bytes) ∷ behind (drop start bytes) i) (sym count) (cut_first (drop start bytes)) in
    let same : n ≡ (start + n) - start = omega arith in
    let test : ltb n (length (drop start bytes)) ≡ leb (start + n + 1) (length bytes) = tested bytes start n inside in
    let place : drop (suc n) (drop start bytes) ≡ drop (start + n + 1) bytes = drop-drop (suc n) start bytes ∙ ap (λ (i : ℕ). drop i bytes) (omega arith) in
    here ∙ ap (map without_return) cut
    ∙ ap (λ (z : List (List ℕ)). without_return (take n (drop start bytes)) ∷ z) (without (ltb n (length (drop start bytes))) (pieces (drop (suc n) (drop start bytes))))
    ∙ ap (λ (i : ℕ). without_return (take i (drop start bytes)) ∷ cond (ltb n (length (drop start bytes))) (lines_of (drop (suc n) (drop start bytes))) []) same
    ∙ ap (λ (t : Bool). without_return (slice_range bytes start (start + n)) ∷ cond t (lines_of (drop (suc n) (drop start bytes))) []) test
    ∙ ap (λ (z : List ℕ). without_return (slice_range bytes start (start + n)) ∷ cond (leb (start + n + 1) (length bytes)) (lines_of z) []) place
