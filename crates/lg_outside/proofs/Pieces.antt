-- Lemmas on a text that is taken apart piece by piece.
use Rattle.std.proofs.Common.{◌≡◌, ◌+◌, ◌-◌, ◌<◌, min, ◌∙◌, ℕ, List, [], ◌++◌, length, take, drop, sym, ap, arith, append_assoc, take-append-drop, length-drop}
use Rattle.std.proofs.lemmas.List.{drop-drop, drop_all, take_all}

-- the next piece goes from the rest to the front
pub next_piece : (bytes front rest : List ℕ) (n : ℕ) → bytes ≡ front ++ rest
    → bytes ≡ (front ++ take n rest) ++ take (length rest - n) (drop n rest)
next_piece bytes front rest n split =
    split ∙ ap (λ l. front ++ l) (sym (take-append-drop n rest)) ∙ sym (append_assoc front (take n rest) (drop n rest))
    ∙ ap (λ l. (front ++ take n rest) ++ l) (sym (take_all (length rest - n) (drop n rest) (simp length-drop (omega arith))))

-- what was left is the piece that was given, and what is left now
pub piece_and_rest : (bytes given : List ℕ) (taken n : ℕ) → given ≡ take n (drop taken bytes)
    → drop taken bytes ≡ given ++ drop (taken + n) bytes
piece_and_rest bytes given taken n is_piece =
    sym (take-append-drop n (drop taken bytes)) ∙ ap (λ l. l ++ drop n (drop taken bytes)) (sym is_piece)
    ∙ ap (λ l. given ++ l) (drop-drop n taken bytes)

-- a call that has room for a byte and gives none leaves none
pub none_left : (bytes : List ℕ) (taken n piece room : ℕ)
    → n ≡ min piece (min room (length (drop taken bytes))) → 0 < piece → 0 < room → n ≡ 0
    → drop (taken + n) bytes ≡ []
none_left bytes taken n piece room amount some_piece some_room none =
    drop_all (taken + n) bytes (let behind = length-drop taken bytes in omega arith)
