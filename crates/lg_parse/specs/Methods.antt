-- The methods whose words are no reserved words: elsewhere these are names like any other.
use Rattle.std.specs.Prelude.{ℕ, Option, List, [], ◌∷◌, codes}
use Rattle.lg_parse.specs.declared.methods.Method.{Method}
use Rattle.lg_parse.specs.declared.methods.Method.TheVariants.{Turned, Copy, Flatten, AsType, Reshape}
use Rattle.lg_parse.specs.Keywords.{found_in}

-- the word of a method
abbrev pub method_word : Method → List ℕ
method_word Turned = codes "T"
method_word Copy = codes "copy"
method_word Flatten = codes "flatten"
method_word AsType = codes "astype"
method_word Reshape = codes "reshape"

abbrev pub method_entry : Method → List ℕ × Method
method_entry m = (method_word m, m)

-- which method a word is
unfoldable pub method_of : List ℕ → Option Method
method_of w = found_in w (method_entry Turned ∷ method_entry Copy ∷ method_entry Flatten
    ∷ method_entry AsType ∷ method_entry Reshape ∷ [])
