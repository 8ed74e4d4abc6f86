-- The step of a loop that writes at each place what is computed of the element there.
use Rattle.std.proofs.Common.{◌≡◌, ℕ, ◌+◌, ◌<◌, List, [], ◌∷◌, ◌++◌, length, map, take, get_or, sym, ap, subst, ◌∙◌, ℤ}
use Rattle.std.specs.List.{All, slice_set}
use Rattle.std.proofs.lemmas.List.{take_more, take_more_set, map-append}
use Rattle.std.proofs.lemmas.List.Elements.{All-more}
use Rattle.lg_elem.specs.declared.dtype.DType.{DType}
use Rattle.lg_elem.specs.Types.{IsNumber}

pub one_more : {T : Type 0} (number : T → ℤ) (f : ℤ → ℤ) (out items : List T) (i : ℕ) (x y : T) → i < length out → i < length items → x ≡ get_or items i x → number y ≡ f (number x)
    → map number (take i out) ≡ map f (map number (take i items)) → map number (take (i + 1) (slice_set out i y)) ≡ map f (map number (take (i + 1) items))
one_more number f out items i x y within there read is before =
    ap (map number) (take_more_set out i y within) ∙ map-append number (take i out) (y ∷ [])
    ∙ ap (λ l. l ++ number y ∷ []) before ∙ ap (λ n. map f (map number (take i items)) ++ n ∷ []) (is ∙ ap (λ x. f (number x)) read)
    ∙ sym (ap (λ l. map f (map number l)) (take_more items i x there) ∙ ap (map f) (map-append number (take i items) (get_or items i x ∷ [])) ∙ map-append f (map number (take i items)) (number (get_or items i x) ∷ []))

-- and of which it is known what it read; v is the element's number
pub one_more_number : {T : Type 0} (t : DType) (number : T → ℤ) (items : List T) (i : ℕ) (x : T) (v : ℤ) → i < length items → x ≡ get_or items i x → v ≡ number x → IsNumber t v
    → All (λ a. IsNumber t (number a)) (take i items) → All (λ a. IsNumber t (number a)) (take (i + 1) items)
one_more_number t number items i x v there read is fits before =
    All-more (λ a. IsNumber t (number a)) items i x there before (subst (λ a. IsNumber t (number a)) read (subst (IsNumber t) is fits))
