use Rattle.lg_grammar.proofs.Reading.{none_bad, bad_once}
use Rattle.lg_grammar.proofs.laws.bad_or_script.Goals as goal

pub returns-clause-once : goal.returns-clause-once
returns-clause-once c = bad_once

pub returns-clause-either : goal.returns-clause-either
returns-clause-either c = none_bad
