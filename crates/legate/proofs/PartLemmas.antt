-- A text that was written in pieces, of which one was written in part.
use Rattle.std.proofs.Common.{◌≡◌, ◌≢◌, List, [], ◌∷◌, ◌++◌, ℕ, Option, refl, sym, ap, subst, ◌∙◌, append_assoc}
use Rattle.std.specs.Io.KnownBytes.{Appends}
use Rattle.std.proofs.KnownBytes.{Appends-trans}
use Rattle.lg_outside.specs.Outside.{AppendsPart}

-- what is not empty is not empty before more
pub lacks : (xs ys : List ℕ) → xs ≢ [] → xs ++ ys ≢ []
lacks [] ys h e = h refl
lacks (x ∷ xs) ys h e = cc

-- the first piece was written in part
pub part_first : (a b : Option (List ℕ)) (piece xs ys : List ℕ) → piece ≡ xs → AppendsPart a b piece → AppendsPart a b (xs ++ ys)
part_first a b piece xs ys is p = record {
  front = p.front;
  rest = p.rest ++ ys;
  split = ap (λ l. l ++ ys) (sym is ∙ p.split) ∙ append_assoc p.front p.rest ys;
  lacking = lacks p.rest ys p.lacking;
  appended = p.appended;
}

-- a later piece was
pub part_behind : (a b c : Option (List ℕ)) (piece xs ys : List ℕ) → piece ≡ xs → Appends a b piece → AppendsPart b c ys → AppendsPart a c (xs ++ ys)
part_behind a b c piece xs ys is whole p = record {
  front = xs ++ p.front;
  rest = p.rest;
  split = ap (λ l. xs ++ l) p.split ∙ sym (append_assoc xs p.front p.rest);
  lacking = p.lacking;
  appended = Appends-trans a b c xs p.front (subst (Appends a b) is whole) p.appended;
}
