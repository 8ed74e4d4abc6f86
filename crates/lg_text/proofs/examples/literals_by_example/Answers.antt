-- Each text is computed.
use Rattle.std.proofs.Common.{refl}
use Rattle.std.specs.Fmt.{digits}
use Rattle.lg_text.proofs.examples.literals_by_example.Goals as goal

pub returns : goal.returns
unfolding digits
returns c = record {
  zero = refl;
  greatest = refl;
  yes = refl;
  no_truth = refl;
  word = refl;
  negative = refl;
  negative_number = refl;
  twice = refl;
  negative_sum = refl;
  negative_power = refl;
  negative_product = refl;
  negative_comparison = refl;
  negative_call = refl;
  negative_place = refl;
  negative_copy = refl;
  inverted = refl;
  inverted_twice = refl;
  inverted_negative = refl;
}
