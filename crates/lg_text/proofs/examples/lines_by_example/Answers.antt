-- Each text is computed.
use Rattle.std.proofs.Common.{refl}
use Rattle.std.specs.Fmt.{digits}
use Rattle.lg_text.proofs.examples.lines_by_example.Goals as goal

pub returns : goal.returns
unfolding digits
returns c = record {
  empty = refl;
  lone = refl;
  both = refl;
  indented = refl;
  deeper = refl;
  block = refl;
  target = refl;
  nested = refl;
}
