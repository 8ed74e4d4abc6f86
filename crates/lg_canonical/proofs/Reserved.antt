-- The reserved words of canonical text, and those of methods.
use Rattle.std.proofs.Common.{◌≡◌, ◌∷◌, codes, refl, rules}
use Rattle.lg_elem.specs.declared.dtype.DType.{DType}
use Rattle.lg_elem.specs.declared.dtype.DType.TheVariants.{Bool as Truth, Int8, Int16, Int32, Int64, UInt8, UInt16, UInt32, UInt64}
use Rattle.lg_tree.specs.declared.kinds.Red.{Red}
use Rattle.lg_tree.specs.declared.kinds.Red.TheVariants.{Sum, Prod, Min, Max, Any, All}
use Rattle.lg_tree.specs.declared.kinds.ScanCall.{ScanCall}
use Rattle.lg_tree.specs.declared.kinds.ScanCall.TheVariants.{CumSum, CumProd, ArgMin, ArgMax}
use Rattle.lg_lex.specs.Lexical.{BeginsApart}
use Rattle.lg_text.specs.Words.{dtype_text, red_text, scan_text}
use Rattle.lg_parse.specs.declared.words.Function.TheVariants.{Full, Zeros, Ones, Arange, Array, Abs, Minimum, Maximum, Where, Reduce, Take, Transpose, BroadcastTo, Stencil, Apply, Scan}
use Rattle.lg_parse.specs.declared.words.Word.TheVariants.{True, False, NewAxis, For, In, Range, Print, Axis, Load, Save}
use Rattle.lg_parse.specs.Keywords.{keyword_of}
use Rattle.lg_parse.specs.Terminal.{name, word, element, function}
use Rattle.lg_canonical.proofs.Running.{Runs, a_word}

pub the_true : Runs BeginsApart (codes "True") (λ ts. word True ∷ ts)
unfolding keyword_of
the_true = a_word (codes "True") (word True) (search rules) refl

pub the_false : Runs BeginsApart (codes "False") (λ ts. word False ∷ ts)
unfolding keyword_of
the_false = a_word (codes "False") (word False) (search rules) refl

pub the_none : Runs BeginsApart (codes "None") (λ ts. word NewAxis ∷ ts)
unfolding keyword_of
the_none = a_word (codes "None") (word NewAxis) (search rules) refl

pub the_for : Runs BeginsApart (codes "for") (λ ts. word For ∷ ts)
unfolding keyword_of
the_for = a_word (codes "for") (word For) (search rules) refl

pub the_in : Runs BeginsApart (codes "in") (λ ts. word In ∷ ts)
unfolding keyword_of
the_in = a_word (codes "in") (word In) (search rules) refl

pub the_range : Runs BeginsApart (codes "range") (λ ts. word Range ∷ ts)
unfolding keyword_of
the_range = a_word (codes "range") (word Range) (search rules) refl

pub the_print : Runs BeginsApart (codes "print") (λ ts. word Print ∷ ts)
unfolding keyword_of
the_print = a_word (codes "print") (word Print) (search rules) refl

pub the_axis : Runs BeginsApart (codes "axis") (λ ts. word Axis ∷ ts)
unfolding keyword_of
the_axis = a_word (codes "axis") (word Axis) (search rules) refl

pub the_load : Runs BeginsApart (codes "load") (λ ts. word Load ∷ ts)
unfolding keyword_of
the_load = a_word (codes "load") (word Load) (search rules) refl

pub the_save : Runs BeginsApart (codes "save") (λ ts. word Save ∷ ts)
unfolding keyword_of
the_save = a_word (codes "save") (word Save) (search rules) refl

pub the_full : Runs BeginsApart (codes "full") (λ ts. function Full ∷ ts)
unfolding keyword_of
the_full = a_word (codes "full") (function Full) (search rules) refl

pub the_zeros : Runs BeginsApart (codes "zeros") (λ ts. function Zeros ∷ ts)
unfolding keyword_of
the_zeros = a_word (codes "zeros") (function Zeros) (search rules) refl

pub the_ones : Runs BeginsApart (codes "ones") (λ ts. function Ones ∷ ts)
unfolding keyword_of
the_ones = a_word (codes "ones") (function Ones) (search rules) refl

pub the_arange : Runs BeginsApart (codes "arange") (λ ts. function Arange ∷ ts)
unfolding keyword_of
the_arange = a_word (codes "arange") (function Arange) (search rules) refl

pub the_array : Runs BeginsApart (codes "array") (λ ts. function Array ∷ ts)
unfolding keyword_of
the_array = a_word (codes "array") (function Array) (search rules) refl

pub the_abs : Runs BeginsApart (codes "abs") (λ ts. function Abs ∷ ts)
unfolding keyword_of
the_abs = a_word (codes "abs") (function Abs) (search rules) refl

pub the_minimum : Runs BeginsApart (codes "minimum") (λ ts. function Minimum ∷ ts)
unfolding keyword_of
the_minimum = a_word (codes "minimum") (function Minimum) (search rules) refl

pub the_maximum : Runs BeginsApart (codes "maximum") (λ ts. function Maximum ∷ ts)
unfolding keyword_of
the_maximum = a_word (codes "maximum") (function Maximum) (search rules) refl

pub the_where : Runs BeginsApart (codes "where") (λ ts. function Where ∷ ts)
unfolding keyword_of
the_where = a_word (codes "where") (function Where) (search rules) refl

pub the_take : Runs BeginsApart (codes "take") (λ ts. function Take ∷ ts)
unfolding keyword_of
the_take = a_word (codes "take") (function Take) (search rules) refl

pub the_transpose : Runs BeginsApart (codes "transpose") (λ ts. function Transpose ∷ ts)
unfolding keyword_of
the_transpose = a_word (codes "transpose") (function Transpose) (search rules) refl

pub the_broadcast_to : Runs BeginsApart (codes "broadcast_to") (λ ts. function BroadcastTo ∷ ts)
unfolding keyword_of
the_broadcast_to = a_word (codes "broadcast_to") (function BroadcastTo) (search rules) refl

pub the_stencil : Runs BeginsApart (codes "stencil") (λ ts. function Stencil ∷ ts)
unfolding keyword_of
the_stencil = a_word (codes "stencil") (function Stencil) (search rules) refl

pub the_apply : Runs BeginsApart (codes "apply") (λ ts. function Apply ∷ ts)
unfolding keyword_of
the_apply = a_word (codes "apply") (function Apply) (search rules) refl

pub the_copy : Runs BeginsApart (codes "copy") (λ ts. name (codes "copy") ∷ ts)
unfolding keyword_of
the_copy = a_word (codes "copy") (name (codes "copy")) (search rules) refl

pub the_flatten : Runs BeginsApart (codes "flatten") (λ ts. name (codes "flatten") ∷ ts)
unfolding keyword_of
the_flatten = a_word (codes "flatten") (name (codes "flatten")) (search rules) refl

pub the_astype : Runs BeginsApart (codes "astype") (λ ts. name (codes "astype") ∷ ts)
unfolding keyword_of
the_astype = a_word (codes "astype") (name (codes "astype")) (search rules) refl

pub the_reshape : Runs BeginsApart (codes "reshape") (λ ts. name (codes "reshape") ∷ ts)
unfolding keyword_of
the_reshape = a_word (codes "reshape") (name (codes "reshape")) (search rules) refl

pub dtype_runs : (t : DType) → Runs BeginsApart (dtype_text t) (λ ts. element t ∷ ts)
unfolding keyword_of
dtype_runs Truth = a_word (codes "bool") (element Truth) (search rules) refl
dtype_runs Int8 = a_word (codes "int8") (element Int8) (search rules) refl
dtype_runs Int16 = a_word (codes "int16") (element Int16) (search rules) refl
dtype_runs Int32 = a_word (codes "int32") (element Int32) (search rules) refl
dtype_runs Int64 = a_word (codes "int64") (element Int64) (search rules) refl
dtype_runs UInt8 = a_word (codes "uint8") (element UInt8) (search rules) refl
dtype_runs UInt16 = a_word (codes "uint16") (element UInt16) (search rules) refl
dtype_runs UInt32 = a_word (codes "uint32") (element UInt32) (search rules) refl
dtype_runs UInt64 = a_word (codes "uint64") (element UInt64) (search rules) refl

pub red_runs : (r : Red) → Runs BeginsApart (red_text r) (λ ts. function (Reduce r) ∷ ts)
unfolding keyword_of
red_runs Sum = a_word (codes "sum") (function (Reduce Sum)) (search rules) refl
red_runs Prod = a_word (codes "prod") (function (Reduce Prod)) (search rules) refl
red_runs Min = a_word (codes "min") (function (Reduce Min)) (search rules) refl
red_runs Max = a_word (codes "max") (function (Reduce Max)) (search rules) refl
red_runs Any = a_word (codes "any") (function (Reduce Any)) (search rules) refl
red_runs All = a_word (codes "all") (function (Reduce All)) (search rules) refl

pub scan_runs : (c : ScanCall) → Runs BeginsApart (scan_text c) (λ ts. function (Scan c) ∷ ts)
unfolding keyword_of
scan_runs CumSum = a_word (codes "cumsum") (function (Scan CumSum)) (search rules) refl
scan_runs CumProd = a_word (codes "cumprod") (function (Scan CumProd)) (search rules) refl
scan_runs ArgMin = a_word (codes "argmin") (function (Scan ArgMin)) (search rules) refl
scan_runs ArgMax = a_word (codes "argmax") (function (Scan ArgMax)) (search rules) refl
