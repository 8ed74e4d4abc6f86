-- Each text is computed.
use Rattle.std.proofs.Common.{refl}
use Rattle.std.specs.Fmt.{digits}
use Rattle.lg_text.proofs.examples.changes_by_example.Goals as goal

pub returns : goal.returns
unfolding digits
returns c = record {
  reversed = refl;
  axis = refl;
  axes = refl;
  lone_axis = refl;
  no_axes = refl;
  broadcast = refl;
  broadcast_both = refl;
  copy = refl;
  copy_sum = refl;
  copy_negative = refl;
  copy_inverted = refl;
  copy_product = refl;
  copy_comparison = refl;
  copy_number = refl;
  copy_truth = refl;
  copy_place = refl;
  copy_call = refl;
  copy_copy = refl;
  flatten = refl;
  flatten_sum = refl;
  as_bool = refl;
  as_int8 = refl;
  as_int16 = refl;
  as_int32 = refl;
  as_int64 = refl;
  as_uint8 = refl;
  as_uint16 = refl;
  as_uint32 = refl;
  as_uint64 = refl;
  as_type_sum = refl;
  reshape = refl;
  reshape_both = refl;
  reshape_lone = refl;
  reshape_none = refl;
  reshape_call = refl;
  reshape_sum = refl;
}
