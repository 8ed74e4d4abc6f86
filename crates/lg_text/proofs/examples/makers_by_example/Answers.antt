-- Each text is computed.
use Rattle.std.proofs.Common.{refl}
use Rattle.std.specs.Fmt.{digits}
use Rattle.lg_text.proofs.examples.makers_by_example.Goals as goal

pub returns : goal.returns
unfolding digits
returns c = record {
  full = refl;
  no_extents = refl;
  lone_extent = refl;
  two_extents = refl;
  three_extents = refl;
  sums = refl;
  members_of_extents = refl;
  zeros = refl;
  typed_zeros = refl;
  ones = refl;
  typed_ones = refl;
  arange = refl;
  typed_arange = refl;
  range = refl;
  typed_range = refl;
  empty_array = refl;
  lone_number = refl;
  numbers = refl;
  rows = refl;
  empty_rows = refl;
  members = refl;
}
