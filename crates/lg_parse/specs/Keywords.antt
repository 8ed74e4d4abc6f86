-- The reserved words. Those of Python are in its reference, "Keywords"; the others are this project's
-- own. Some stand in no production: they are kept from being names.
use Rattle.std.specs.Prelude.{ℕ, Option, Some, None, if◌then◌else◌, List, [], ◌∷◌, ◌++◌, codes, bytes_eq}
use Rattle.lg_elem.specs.declared.dtype.DType.TheVariants.{
  Bool as Truth,
  Int8,
  Int16,
  Int32,
  Int64,
  UInt8,
  UInt16,
  UInt32,
  UInt64,
}
use Rattle.lg_tree.specs.declared.kinds.Red.TheVariants.{Sum, Prod, Min, Max, Any, All}
use Rattle.lg_tree.specs.declared.kinds.ScanCall.TheVariants.{CumSum, CumProd, ArgMin, ArgMax}
use Rattle.lg_parse.specs.declared.words.Function.TheVariants.{
  Full,
  Zeros,
  Ones,
  Arange,
  Array,
  Abs,
  Minimum,
  Maximum,
  Where,
  Reduce,
  Take,
  Transpose,
  BroadcastTo,
  Stencil,
  Apply,
  Scan,
}
use Rattle.lg_parse.specs.declared.words.Keyword.{Keyword}
use Rattle.lg_parse.specs.declared.words.Keyword.TheVariants.{Itself, Element, Call}
use Rattle.lg_parse.specs.declared.words.Word.TheVariants.{
  True,
  False,
  NewAxis,
  For,
  In,
  Range,
  Print,
  Axis,
  Dtype,
  Load,
  Save,
  Unused,
}

-- a word and what it is
abbrev pub entry : List ℕ → Keyword → List ℕ × Keyword
entry w k = (w, k)

-- the keywords of Python
abbrev pub python_words : List (List ℕ × Keyword)
python_words =
    entry (codes "False") (Itself False) ∷
    entry (codes "None") (Itself NewAxis) ∷
    entry (codes "True") (Itself True) ∷
    entry (codes "and") (Itself Unused) ∷
    entry (codes "as") (Itself Unused) ∷
    entry (codes "assert") (Itself Unused) ∷
    entry (codes "async") (Itself Unused) ∷
    entry (codes "await") (Itself Unused) ∷
    entry (codes "break") (Itself Unused) ∷
    entry (codes "class") (Itself Unused) ∷
    entry (codes "continue") (Itself Unused) ∷
    entry (codes "def") (Itself Unused) ∷
    entry (codes "del") (Itself Unused) ∷
    entry (codes "elif") (Itself Unused) ∷
    entry (codes "else") (Itself Unused) ∷
    entry (codes "except") (Itself Unused) ∷
    entry (codes "finally") (Itself Unused) ∷
    entry (codes "for") (Itself For) ∷
    entry (codes "from") (Itself Unused) ∷
    entry (codes "global") (Itself Unused) ∷
    entry (codes "if") (Itself Unused) ∷
    entry (codes "import") (Itself Unused) ∷
    entry (codes "in") (Itself In) ∷
    entry (codes "is") (Itself Unused) ∷
    entry (codes "lambda") (Itself Unused) ∷
    entry (codes "nonlocal") (Itself Unused) ∷
    entry (codes "not") (Itself Unused) ∷
    entry (codes "or") (Itself Unused) ∷
    entry (codes "pass") (Itself Unused) ∷
    entry (codes "raise") (Itself Unused) ∷
    entry (codes "return") (Itself Unused) ∷
    entry (codes "try") (Itself Unused) ∷
    entry (codes "while") (Itself Unused) ∷
    entry (codes "with") (Itself Unused) ∷
    entry (codes "yield") (Itself Unused) ∷
    []

-- the words of statements and arguments, and the types
abbrev pub language_words : List (List ℕ × Keyword)
language_words =
    entry (codes "range") (Itself Range) ∷
    entry (codes "print") (Itself Print) ∷
    entry (codes "axis") (Itself Axis) ∷
    entry (codes "dtype") (Itself Dtype) ∷
    entry (codes "load") (Itself Load) ∷
    entry (codes "save") (Itself Save) ∷
    entry (codes "bool") (Element Truth) ∷
    entry (codes "int8") (Element Int8) ∷
    entry (codes "int16") (Element Int16) ∷
    entry (codes "int32") (Element Int32) ∷
    entry (codes "int64") (Element Int64) ∷
    entry (codes "uint8") (Element UInt8) ∷
    entry (codes "uint16") (Element UInt16) ∷
    entry (codes "uint32") (Element UInt32) ∷
    entry (codes "uint64") (Element UInt64) ∷
    []

-- the functions
abbrev pub function_words : List (List ℕ × Keyword)
function_words =
    entry (codes "full") (Call Full) ∷
    entry (codes "zeros") (Call Zeros) ∷
    entry (codes "ones") (Call Ones) ∷
    entry (codes "arange") (Call Arange) ∷
    entry (codes "array") (Call Array) ∷
    entry (codes "abs") (Call Abs) ∷
    entry (codes "minimum") (Call Minimum) ∷
    entry (codes "maximum") (Call Maximum) ∷
    entry (codes "where") (Call Where) ∷
    entry (codes "sum") (Call (Reduce Sum)) ∷
    entry (codes "prod") (Call (Reduce Prod)) ∷
    entry (codes "min") (Call (Reduce Min)) ∷
    entry (codes "max") (Call (Reduce Max)) ∷
    entry (codes "any") (Call (Reduce Any)) ∷
    entry (codes "all") (Call (Reduce All)) ∷
    entry (codes "take") (Call Take) ∷
    entry (codes "transpose") (Call Transpose) ∷
    entry (codes "broadcast_to") (Call BroadcastTo) ∷
    entry (codes "stencil") (Call Stencil) ∷
    entry (codes "apply") (Call Apply) ∷
    entry (codes "cumsum") (Call (Scan CumSum)) ∷
    entry (codes "cumprod") (Call (Scan CumProd)) ∷
    entry (codes "argmin") (Call (Scan ArgMin)) ∷
    entry (codes "argmax") (Call (Scan ArgMax)) ∷
    []

-- what stands beside the word
abbrev pub found_in : {A : Type 0} → List ℕ → List (List ℕ × A) → Option A
found_in w [] = None
found_in w (p ∷ ps) = if bytes_eq w p.0 then Some p.1 else found_in w ps

-- what a word is, if it is reserved
unfoldable pub keyword_of : List ℕ → Option Keyword
keyword_of w = found_in w (python_words ++ (language_words ++ function_words))
