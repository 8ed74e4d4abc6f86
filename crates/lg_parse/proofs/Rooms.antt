-- How deep brackets may still nest, and how much of the parser's depth is left for that and for the
-- height of a tree.
use Rattle.std.proofs.Common.{◌≡◌, ℕ, suc, ◌+◌, ◌<◌, ◌≤◌, List, [], ◌∷◌, ◌++◌, refl, ap, ◌∙◌, arith, append_assoc}
use Rattle.lg_lex.specs.declared.tokens.TokenKind.{TokenKind}
use Rattle.lg_parse.specs.Terminal.{Terminal, sign}
use Rattle.lg_parse.specs.Brackets.{opens, closes, opened_by, closed_by, opened, closed}
use Rattle.lg_parse.proofs.Passing.{opened-append, closed-append, Passes}

-- where so many brackets are open already, no more than 64 are open anywhere
pub record Fits (open_now : ℕ) (ts : List Terminal) : Type 0 where
  pub at : (front rest : List Terminal) → ts ≡ front ++ rest → open_now + opened front ≤ 64 + closed front

pub fits_past : {a : ℕ} {ts us : List Terminal} → Passes ts us → Fits a ts → Fits a us
fits_past {a} {ts} {us} p w = record {
  at = λ front rest e.
      let whole : ts ≡ (p.front ++ front) ++ rest = p.cut ∙ ap (λ (z : List Terminal). p.front ++ z) e ∙ simp append_assoc in
      let h : a + opened (p.front ++ front) ≤ 64 + closed (p.front ++ front) = w.at (p.front ++ front) rest whole in
      let even : opened p.front ≡ closed p.front = p.even in
      omega (arith, opened-append p.front front, closed-append p.front front);
}

pub fits_in : {a : ℕ} {k : TokenKind} {ts : List Terminal} → Fits a (sign k ∷ ts) → opens k ≡ 1 → closes k ≡ 0 → Fits (suc a) ts
fits_in {a} {k} {ts} w o c = record {
  at = λ front rest e.
      let h : a + opened (sign k ∷ front) ≤ 64 + closed (sign k ∷ front) = w.at (sign k ∷ front) rest (ap (λ (z : List Terminal). sign k ∷ z) e) in
      omega arith;
}

pub fits_next : {a : ℕ} {t : Terminal} {ts : List Terminal} → Fits a (t ∷ ts) → opened_by t ≡ 0 → closed_by t ≡ 0 → Fits a ts
fits_next {a} {t} {ts} w o c = record {
  at = λ front rest e.
      let h : a + opened (t ∷ front) ≤ 64 + closed (t ∷ front) = w.at (t ∷ front) rest (ap (λ (z : List Terminal). t ∷ z) e) in
      omega arith;
}

pub fits_base : {a : ℕ} {ts : List Terminal} → Fits a ts → a ≤ 64
fits_base {a} {ts} w = let h : a + 0 ≤ 64 + 0 = w.at [] ts refl in omega arith

-- there is room for trees of this height where rules may stand so deep inside one another
pub record Room (k a h : ℕ) (ts : List Terminal) : Type 0 where
  pub fits : Fits a ts
  pub fuel : 64 + h < a + k
  pub low : h ≤ 200

pub past : {k a h : ℕ} {ts us : List Terminal} → Passes ts us → Room k a h ts → Room k a h us
past p r = record { fits = fits_past p r.fits; fuel = r.fuel; low = r.low }

pub beyond : {k a h : ℕ} {t : Terminal} {ts : List Terminal} → Room k a h (t ∷ ts) → opened_by t ≡ 0 → closed_by t ≡ 0 → Room k a h ts
beyond r o c = record { fits = fits_next r.fits o c; fuel = r.fuel; low = r.low }

-- and for a tree of this height itself
pub record Space (k a h : ℕ) (ts : List Terminal) : Type 0 where
  pub fits : Fits a ts
  pub fuel : 64 + h ≤ a + k
  pub low : h ≤ 200

pub space_past : {k a h : ℕ} {ts us : List Terminal} → Passes ts us → Space k a h ts → Space k a h us
space_past p r = record { fits = fits_past p r.fits; fuel = r.fuel; low = r.low }

pub space_next : {k a h : ℕ} {t : Terminal} {ts : List Terminal} → Space k a h (t ∷ ts) → opened_by t ≡ 0 → closed_by t ≡ 0 → Space k a h ts
space_next r o c = record { fits = fits_next r.fits o c; fuel = r.fuel; low = r.low }

-- for what is no higher
pub lower : {k a h : ℕ} {ts : List Terminal} (g : ℕ) → g ≤ h → Space k a h ts → Space k a g ts
lower {k} {a} {h} g e r = let f : 64 + h ≤ a + k = r.fuel in let l : h ≤ 200 = r.low in record { fits = r.fits; fuel = omega arith; low = omega arith }

-- in a bracket
pub enter : {k a h : ℕ} {j : TokenKind} {ts : List Terminal} → Space k a h (sign j ∷ ts) → opens j ≡ 1 → closes j ≡ 0 → Room k (suc a) h ts
enter {k} {a} {h} r o c = let f : 64 + h ≤ a + k = r.fuel in record { fits = fits_in r.fits o c; fuel = omega arith; low = r.low }

-- for what is less high
pub below : {k a h : ℕ} {ts : List Terminal} (g : ℕ) → g < h → Space k a h ts → Room k a g ts
below {k} {a} {h} g e r = let f : 64 + h ≤ a + k = r.fuel in let l : h ≤ 200 = r.low in record { fits = r.fits; fuel = omega arith; low = omega arith }
