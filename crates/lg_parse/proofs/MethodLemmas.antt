-- Which word a method has.
use Rattle.std.proofs.Common.{◌≡◌, ℕ, Bool, true, false, cond, Option, Some, List, [], ◌∷◌, refl, ap, ◌∙◌, bytes_eq}
use Rattle.std.proofs.lemmas.Slice.Eq.{bytes_eq-Decides}
use Rattle.lg_parse.specs.declared.methods.Method.{Method}
use Rattle.lg_parse.specs.declared.methods.Method.TheVariants.{Turned, Copy, Flatten, AsType, Reshape}
use Rattle.lg_parse.specs.Keywords.{found_in}
use Rattle.lg_parse.specs.Methods.{method_word, method_entry, method_of}

abbrev rows : List Method → List (List ℕ × Method)
rows [] = []
rows (m ∷ ms) = method_entry m ∷ rows ms

row_at : (w : List ℕ) (k m : Method) (o : Option Method) (b : Bool) → bytes_eq w (method_word k) ≡ b → (o ≡ Some m → w ≡ method_word m) → cond b (Some k) o ≡ Some m → w ≡ method_word m
row_at w k m o true h more e = let same : k ≡ m = cc in (bytes_eq-Decides w (method_word k)).0 h ∙ ap method_word same
row_at w k m o false h more e = more e

found_row : (w : List ℕ) (ms : List Method) (m : Method) → found_in w (rows ms) ≡ Some m → w ≡ method_word m
found_row w [] m e = absurd (cc)
found_row w (k ∷ ms) m e = row_at w k m (found_in w (rows ms)) (bytes_eq w (method_word k)) refl (found_row w ms m) e

-- a word that is found is the method's
pub word_is : (w : List ℕ) (m : Method) → method_of w ≡ Some m → w ≡ method_word m
unfolding method_of
word_is w m e = found_row w (Turned ∷ Copy ∷ Flatten ∷ AsType ∷ Reshape ∷ []) m e

-- and the method's word is found
pub method_is : (m : Method) → method_of (method_word m) ≡ Some m
unfolding method_of
method_is Turned = refl
method_is Copy = refl
method_is Flatten = refl
method_is AsType = refl
method_is Reshape = refl
