-- Whether brackets nest too deep, computed for given terminals.
use Rattle.std.proofs.Common.{◌≡◌, ℕ, ◌+◌, ◌≤◌, Bool, true, false, cond, leb, List, [], ◌∷◌, ◌++◌, refl, subst, arith}
use Rattle.std.proofs.lemmas.Bool.{leb-true}
use Rattle.lg_parse.specs.Terminal.{Terminal}
use Rattle.lg_parse.specs.Brackets.{opened, closed, opened_by, closed_by, NestsAtMost}

-- at no place from here on are more than 64 open, where so many were opened and closed before
abbrev pub keeps : ℕ → ℕ → List Terminal → Bool
keeps o c [] = leb o (64 + c)
keeps o c (t ∷ ts) = cond (leb o (64 + c)) (keeps (o + opened_by t) (c + closed_by t) ts) false

both_first : (b c : Bool) → cond b c false ≡ true → b ≡ true
both_first true c h = refl
both_first false c h = absurd (cc)

both_second : (b c : Bool) → cond b c false ≡ true → c ≡ true
both_second true c h = h
both_second false c h = absurd (cc)

here : (o c : ℕ) (ts : List Terminal) → keeps o c ts ≡ true → o ≤ 64 + c
here o c [] h = leb-true o (64 + c) h
here o c (t ∷ ts) h = leb-true o (64 + c) (both_first (leb o (64 + c)) (keeps (o + opened_by t) (c + closed_by t) ts) h)

front_keeps : (o c : ℕ) (front rest : List Terminal) → keeps o c (front ++ rest) ≡ true → o + opened front ≤ 64 + (c + closed front)
front_keeps o c [] rest h = let low : o ≤ 64 + c = here o c rest h in omega arith
front_keeps o c (t ∷ front) rest h =
    let low : o + opened_by t + opened front ≤ 64 + (c + closed_by t + closed front) = front_keeps (o + opened_by t) (c + closed_by t) front rest (both_second (leb o (64 + c)) (keeps (o + opened_by t) (c + closed_by t) (front ++ rest)) h) in
    omega arith

pub kept : (ts : List Terminal) → keeps 0 0 ts ≡ true → NestsAtMost 64 ts
kept ts h front rest cut =
    let low : 0 + opened front ≤ 64 + (0 + closed front) = front_keeps 0 0 front rest (subst (λ (z : List Terminal). keeps 0 0 z ≡ true) cut h) in
    omega arith
