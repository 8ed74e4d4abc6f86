-- Each text is computed.
use Rattle.std.proofs.Common.{refl}
use Rattle.std.specs.Fmt.{digits}
use Rattle.lg_text.proofs.examples.operations_by_example.Goals as goal

pub returns : goal.returns
unfolding digits
returns c = record {
  add = refl;
  sub = refl;
  mul = refl;
  floor_div = refl;
  rem = refl;
  pow = refl;
  bit_and = refl;
  bit_or = refl;
  bit_xor = refl;
  shl = refl;
  shr = refl;
  matmul = refl;
  eq = refl;
  ne = refl;
  lt = refl;
  le = refl;
  gt = refl;
  ge = refl;
  left = refl;
  right = refl;
  tighter = refl;
  negative_left = refl;
  negative_right = refl;
  negative_base = refl;
  left_power = refl;
  right_power = refl;
  negative_exponent = refl;
  inverted_operand = refl;
  product_operand = refl;
  comparisons = refl;
  compared_sum = refl;
  calls = refl;
  places = refl;
}
