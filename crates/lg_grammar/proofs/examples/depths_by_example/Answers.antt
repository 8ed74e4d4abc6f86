use Rattle.lg_grammar.proofs.Samples.{the_deepest}
use Rattle.lg_grammar.proofs.examples.depths_by_example.Goals as goal

pub returns-clause-deepest : goal.returns-clause-deepest
returns-clause-deepest c = the_deepest
