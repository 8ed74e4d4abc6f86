use Rattle.std.proofs.Common.{codes, []}
use Rattle.lg_lex.proofs.ReaderLemmas.{example}
use Rattle.lg_grammar.specs.Script.{ended, skipped, held}
use Rattle.lg_grammar.proofs.Samples.{the_load, the_inner, the_loop}
use Rattle.lg_grammar.proofs.examples.scripts_by_example.Goals as goal

pub returns-clause-nothing : goal.returns-clause-nothing
returns-clause-nothing c = record { rows = skipped (example []) ended; full = tt }

pub returns-clause-skipped : goal.returns-clause-skipped
returns-clause-skipped c = record { rows = skipped (example (codes "# a")) (skipped (example (codes " ")) (skipped (example []) ended)); full = tt }

pub returns-clause-one : goal.returns-clause-one
returns-clause-one c = record { rows = held the_load ended; full = (tt, tt) }

pub returns-clause-returns : goal.returns-clause-returns
returns-clause-returns c = record { rows = held the_load (skipped (example []) (held the_load (skipped (example []) ended))); full = (tt, (tt, tt)) }

pub returns-clause-block : goal.returns-clause-block
returns-clause-block c = record {
  rows = held the_loop (held the_inner (skipped (example (codes "# a")) (held the_inner (held the_load (skipped (example []) ended)))));
  full = ((tt, (tt, (tt, tt))), (tt, tt));
}
