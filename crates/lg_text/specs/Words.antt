-- How operators, types and calls are written. The words and signs are those of NumPy and Python.
use Rattle.std.specs.Prelude.{ℕ, Bool, true, false, List, codes}
use Rattle.lg_elem.specs.declared.dtype.DType.{DType}
use Rattle.lg_elem.specs.declared.dtype.DType.TheVariants.{Bool as Truth, Int8, Int16, Int32, Int64, UInt8, UInt16, UInt32, UInt64}
use Rattle.lg_elem.specs.declared.kinds.Compare.{Compare}
use Rattle.lg_elem.specs.declared.kinds.Compare.TheVariants.{Eq, Ne, Lt, Le, Gt, Ge}
use Rattle.lg_tree.specs.declared.kinds.Arith.{Arith}
use Rattle.lg_tree.specs.declared.kinds.Arith.TheVariants.{Add, Sub, Mul, FloorDiv, Rem, Pow, BitAnd, BitOr, BitXor, Shl, Shr}
use Rattle.lg_tree.specs.declared.kinds.Red.{Red}
use Rattle.lg_tree.specs.declared.kinds.Red.TheVariants.{Sum, Prod, Min, Max, Any, All}
use Rattle.lg_tree.specs.declared.kinds.ScanCall.{ScanCall}
use Rattle.lg_tree.specs.declared.kinds.ScanCall.TheVariants.{CumSum, CumProd, ArgMin, ArgMax}

abbrev pub truth_text : Bool → List ℕ
truth_text true = codes "True"
truth_text false = codes "False"

abbrev pub arith_text : Arith → List ℕ
arith_text Add = codes "+"
arith_text Sub = codes "-"
arith_text Mul = codes "*"
arith_text FloorDiv = codes "//"
arith_text Rem = codes "%"
arith_text Pow = codes "**"
arith_text BitAnd = codes "&"
arith_text BitOr = codes "|"
arith_text BitXor = codes "^"
arith_text Shl = codes "<<"
arith_text Shr = codes ">>"

abbrev pub compare_text : Compare → List ℕ
compare_text Eq = codes "=="
compare_text Ne = codes "!="
compare_text Lt = codes "<"
compare_text Le = codes "<="
compare_text Gt = codes ">"
compare_text Ge = codes ">="

abbrev pub dtype_text : DType → List ℕ
dtype_text Truth = codes "bool"
dtype_text Int8 = codes "int8"
dtype_text Int16 = codes "int16"
dtype_text Int32 = codes "int32"
dtype_text Int64 = codes "int64"
dtype_text UInt8 = codes "uint8"
dtype_text UInt16 = codes "uint16"
dtype_text UInt32 = codes "uint32"
dtype_text UInt64 = codes "uint64"

abbrev pub red_text : Red → List ℕ
red_text Sum = codes "sum"
red_text Prod = codes "prod"
red_text Min = codes "min"
red_text Max = codes "max"
red_text Any = codes "any"
red_text All = codes "all"

abbrev pub scan_text : ScanCall → List ℕ
scan_text CumSum = codes "cumsum"
scan_text CumProd = codes "cumprod"
scan_text ArgMin = codes "argmin"
scan_text ArgMax = codes "argmax"
