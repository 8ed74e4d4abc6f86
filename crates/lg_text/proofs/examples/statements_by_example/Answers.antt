-- Each text is computed.
use Rattle.std.proofs.Common.{refl}
use Rattle.std.specs.Fmt.{digits}
use Rattle.lg_text.proofs.examples.statements_by_example.Goals as goal

pub returns : goal.returns
unfolding digits
returns c = record {
  bind = refl;
  update_add = refl;
  update_sub = refl;
  update_mul = refl;
  update_floor_div = refl;
  update_rem = refl;
  update_pow = refl;
  update_bit_and = refl;
  update_bit_or = refl;
  update_bit_xor = refl;
  update_shl = refl;
  update_shr = refl;
  update_sum = refl;
  put = refl;
  put_slices = refl;
  update_at = refl;
  update_places = refl;
  print = refl;
  loop_to = refl;
  loop_from = refl;
  load = refl;
  save = refl;
}
