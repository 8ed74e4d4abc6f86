-- Each text is computed.
use Rattle.std.proofs.Common.{refl}
use Rattle.std.specs.Fmt.{digits}
use Rattle.lg_text.proofs.examples.indices_by_example.Goals as goal

pub returns : goal.returns
unfolding digits
returns c = record {
  place = refl;
  places = refl;
  negative_place = refl;
  whole = refl;
  start = refl;
  stop = refl;
  bounds = refl;
  step = refl;
  start_step = refl;
  stop_step = refl;
  all_parts = refl;
  sums = refl;
  inner = refl;
  new_axis = refl;
  ellipsis = refl;
  mixed = refl;
  of_sum = refl;
  of_negative = refl;
  of_inverted = refl;
  of_product = refl;
  of_comparison = refl;
  of_place = refl;
  of_number = refl;
  of_truth = refl;
  of_call = refl;
  of_copy = refl;
}
