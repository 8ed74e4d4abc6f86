-- Each text is computed.
use Rattle.std.proofs.Common.{refl}
use Rattle.std.specs.Fmt.{digits}
use Rattle.lg_text.proofs.examples.computations_by_example.Goals as goal

pub returns : goal.returns
unfolding digits
returns c = record {
  abs = refl;
  minimum = refl;
  maximum = refl;
  choose = refl;
  sum_all = refl;
  prod_all = refl;
  min_all = refl;
  max_all = refl;
  any_all = refl;
  all_all = refl;
  sum_axis = refl;
  max_axis = refl;
  take = refl;
  take_axis = refl;
  stencil = refl;
  stencil_rows = refl;
  apply = refl;
  cumsum = refl;
  cumprod = refl;
  argmin = refl;
  argmax = refl;
  scan_axis = refl;
}
