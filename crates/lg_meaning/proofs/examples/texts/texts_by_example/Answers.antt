use Rattle.std.proofs.Common.{refl}
use Rattle.std.specs.Fmt.{digits}
use Rattle.lg_meaning.proofs.examples.texts.texts_by_example.Goals as goal

pub returns-clause-nested : goal.returns-clause-nested
unfolding digits
returns-clause-nested c = refl

pub returns-clause-number : goal.returns-clause-number
unfolding digits
returns-clause-number c = refl

pub returns-clause-four_axes : goal.returns-clause-four_axes
unfolding digits
returns-clause-four_axes c = refl

pub returns-clause-greatest : goal.returns-clause-greatest
unfolding digits
returns-clause-greatest c = refl

pub returns-clause-least : goal.returns-clause-least
unfolding digits
returns-clause-least c = refl
