-- What counting brackets along the terminals tells.
use Rattle.std.proofs.Common.{◌≡◌, ℕ, zero, suc, ◌+◌, ◌<◌, ◌≤◌, List, [], ◌∷◌, ◌++◌, length, take, drop, get_or, refl, sym, ap, ◌∙◌, subst, arith, take-append-drop, length-append, zero-le, Some, inl, inr, ◌⊎◌}
use Rattle.std.specs.List.{slice_get}
use Rattle.std.proofs.lemmas.Bool.{cases_eq}
use Rattle.lg_parse.specs.Terminal.{Terminal}
use Rattle.lg_parse.specs.Brackets.{opened, closed, NestsAtMost, opened_by, closed_by}
use Rattle.lg_parse.specs.Reading.{terminal_of, terminals_view}
use Rattle.lg_parse.specs.declared.terminals.Terminal.{Terminal as Piece}

opened_one : (t : Terminal) (ts : List Terminal) → opened (t ∷ ts) ≡ opened_by t + opened ts
opened_one t ts = refl

closed_one : (t : Terminal) (ts : List Terminal) → closed (t ∷ ts) ≡ closed_by t + closed ts
closed_one t ts = refl

-- so many brackets are open at most at each place up to this one
pub record ShallowTo (ts : List Terminal) (i opened_now closed_now : ℕ) : Type 0 where
  pub opens : opened_now ≡ opened (take i ts)
  pub closes : closed_now ≡ closed (take i ts)
  pub shallow : (j : ℕ) → j ≤ i → opened (take j ts) ≤ 64 + closed (take j ts)

opened_next : (ts : List Terminal) (i : ℕ) (t : Terminal) → slice_get ts i ≡ Some t → opened (take (suc i) ts) ≡ opened (take i ts) + opened_by t
opened_next [] i t e = absurd (cc)
opened_next (u ∷ ts) zero t e =
    let same : u ≡ t = cc in
    let one : opened (u ∷ []) ≡ opened_by u + 0 = opened_one u [] in
    let by : opened_by u ≡ opened_by t = ap opened_by same in
    omega arith
opened_next (u ∷ ts) (suc i) t e =
    let more : opened (take (suc i) ts) ≡ opened (take i ts) + opened_by t = opened_next ts i t e in
    let whole : opened (u ∷ take (suc i) ts) ≡ opened_by u + opened (take (suc i) ts) = opened_one u (take (suc i) ts) in
    let front : opened (u ∷ take i ts) ≡ opened_by u + opened (take i ts) = opened_one u (take i ts) in
    omega arith

closed_next : (ts : List Terminal) (i : ℕ) (t : Terminal) → slice_get ts i ≡ Some t → closed (take (suc i) ts) ≡ closed (take i ts) + closed_by t
closed_next [] i t e = absurd (cc)
closed_next (u ∷ ts) zero t e =
    let same : u ≡ t = cc in
    let one : closed (u ∷ []) ≡ closed_by u + 0 = closed_one u [] in
    let by : closed_by u ≡ closed_by t = ap closed_by same in
    omega arith
closed_next (u ∷ ts) (suc i) t e =
    let more : closed (take (suc i) ts) ≡ closed (take i ts) + closed_by t = closed_next ts i t e in
    let whole : closed (u ∷ take (suc i) ts) ≡ closed_by u + closed (take (suc i) ts) = closed_one u (take (suc i) ts) in
    let front : closed (u ∷ take i ts) ≡ closed_by u + closed (take i ts) = closed_one u (take i ts) in
    omega arith

pub shallow_start : (ts : List Terminal) → ShallowTo ts 0 0 0
shallow_start ts = record {
  opens = refl;
  closes = refl;
  shallow = λ j h.
      let none : j ≡ 0 = omega arith in
      subst (λ (k : ℕ). opened (take k ts) ≤ 64 + closed (take k ts)) (sym none) zero-le;
}

le-cases : (j i : ℕ) → j ≤ suc i → (j ≤ i) ⊎ (j ≡ suc i)
le-cases j i h = elim (cases_eq j (suc i)) [ inl a ↦ inr a | inr b ↦ inl (omega arith) ]

up_to : (ts : List Terminal) (i j : ℕ) → j ≤ suc i → ((k : ℕ) → k ≤ i → opened (take k ts) ≤ 64 + closed (take k ts)) → opened (take (suc i) ts) ≤ 64 + closed (take (suc i) ts) → opened (take j ts) ≤ 64 + closed (take j ts)
up_to ts i j h below here =
    elim (le-cases j i h) [
      | inl a ↦ below j a
      | inr b ↦ subst (λ (k : ℕ). opened (take k ts) ≤ 64 + closed (take k ts)) (sym b) here
    ]

pub shallow_more : (ts : List Terminal) (i o c o' c' : ℕ) (t : Terminal) → slice_get ts i ≡ Some t → o' ≡ o + opened_by t → c' ≡ c + closed_by t → o' ≤ c' + 64 → ShallowTo ts i o c → ShallowTo ts (suc i) o' c'
shallow_more ts i o c o' c' t e p q low h =
    let a : opened (take (suc i) ts) ≡ opened (take i ts) + opened_by t = opened_next ts i t e in
    let b : closed (take (suc i) ts) ≡ closed (take i ts) + closed_by t = closed_next ts i t e in
    let x : o ≡ opened (take i ts) = h.opens in
    let y : c ≡ closed (take i ts) = h.closes in
    let here : opened (take (suc i) ts) ≤ 64 + closed (take (suc i) ts) = omega arith in
    record { opens = omega arith; closes = omega arith; shallow = λ j k. up_to ts i j k h.shallow here }

front_taken : (front rest : List Terminal) → take (length front) (front ++ rest) ≡ front
front_taken [] rest = refl
front_taken (t ∷ front) rest = ap (λ (z : List Terminal). t ∷ z) (front_taken front rest)

pub shallow_end : (ts : List Terminal) (i o c : ℕ) → length ts ≤ i → ShallowTo ts i o c → NestsAtMost 64 ts
shallow_end ts i o c all h front rest cut =
    let same : take (length front) ts ≡ front = ap (take (length front)) cut ∙ front_taken front rest in
    let whole : length ts ≡ length (front ++ rest) = ap length cut in
    let low : opened (take (length front) ts) ≤ 64 + closed (take (length front) ts) = h.shallow (length front) (omega (arith, length-append front rest)) in
    subst (λ (z : List Terminal). opened z ≤ 64 + closed z) same low

pub too_deep : (ts : List Terminal) (i o c o' c' : ℕ) (t : Terminal) → slice_get ts i ≡ Some t → o' ≡ o + opened_by t → c' ≡ c + closed_by t → c' + 64 < o' → ShallowTo ts i o c → NestsAtMost 64 ts → ⊥
too_deep ts i o c o' c' t e p q high h k =
    let a : opened (take (suc i) ts) ≡ opened (take i ts) + opened_by t = opened_next ts i t e in
    let b : closed (take (suc i) ts) ≡ closed (take i ts) + closed_by t = closed_next ts i t e in
    let x : o ≡ opened (take i ts) = h.opens in
    let y : c ≡ closed (take i ts) = h.closes in
    let low : opened (take (suc i) ts) ≤ 64 + closed (take (suc i) ts) = k (take (suc i) ts) (drop (suc i) ts) (sym (take-append-drop (suc i) ts)) in
    omega arith

view_at : (ps : List Piece) (i : ℕ) (d : Piece) → i < length ps → slice_get (terminals_view ps) i ≡ Some (terminal_of (get_or ps i d))
view_at [] i d h = absurd (omega arith)
view_at (p ∷ ps) zero d h = refl
view_at (p ∷ ps) (suc i) d h = view_at ps i d (omega arith)

-- one terminal more
pub turn_shallow : (ps : List Piece) (i : ℕ) (d : Piece) (o c x y : ℕ) → i < length ps → x ≡ opened_by (terminal_of (get_or ps i d)) → y ≡ closed_by (terminal_of (get_or ps i d)) → o + x ≤ c + y + 64 → ShallowTo (terminals_view ps) i o c → ShallowTo (terminals_view ps) (i + 1) (o + x) (c + y)
turn_shallow ps i d o c x y h p q low s =
    let next : suc i ≡ i + 1 = omega arith in
    subst (λ (n : ℕ). ShallowTo (terminals_view ps) n (o + x) (c + y)) next (shallow_more (terminals_view ps) i o c (o + x) (c + y) (terminal_of (get_or ps i d)) (view_at ps i d h) (ap (λ (n : ℕ). o + n) p) (ap (λ (n : ℕ). c + n) q) low s)

pub turn_deep : (ps : List Piece) (i : ℕ) (d : Piece) (o c x y : ℕ) → i < length ps → x ≡ opened_by (terminal_of (get_or ps i d)) → y ≡ closed_by (terminal_of (get_or ps i d)) → c + y + 64 < o + x → ShallowTo (terminals_view ps) i o c → NestsAtMost 64 (terminals_view ps) → ⊥
turn_deep ps i d o c x y h p q high s k = too_deep (terminals_view ps) i o c (o + x) (c + y) (terminal_of (get_or ps i d)) (view_at ps i d h) (ap (λ (n : ℕ). o + n) p) (ap (λ (n : ℕ). c + n) q) high s k
