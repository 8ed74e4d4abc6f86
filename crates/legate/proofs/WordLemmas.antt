-- One word, told by its bytes.
use Rattle.std.proofs.Common.{◌≡◌, ◌↔◌, ℕ, Bool, List, [], ◌∷◌, length, map, get_or, sym, ap, ◌∙◌, IsTrue, arith}
use Rattle.std.specs.Str.{bytes_eq}
use Rattle.std.proofs.lemmas.Slice.Eq.{bytes_eq-Decides}

first_member : (x y : List ℕ) → x ∷ [] ≡ y ∷ [] → x ≡ y
first_member x y e = cc

-- of one word the test on its bytes says which it is
pub one_word : {X : Type 0} (f : X → List ℕ) (words : List X) (word : X) (text expected : List ℕ) (same : Bool) → length words ≡ 1
    → word ≡ get_or words 0 word → text ≡ f word → same ≡ bytes_eq text expected → IsTrue same ↔ (map f words ≡ expected ∷ [])
one_word f [] word text expected same n is t e = absurd (omega arith)
one_word f (w ∷ v ∷ others) word text expected same n is t e = absurd (omega arith)
one_word f (w ∷ []) word text expected same n is t e =
    let decides = bytes_eq-Decides text expected in
    let first : text ≡ f w = t ∙ ap f is in
    (λ yes. ap (λ l. l ∷ []) (sym first ∙ decides.0 (sym e ∙ yes)), λ all. e ∙ decides.1 (first ∙ first_member (f w) expected all))
