use Rattle.lg_grammar.proofs.Reading.{script_once}
use Rattle.lg_grammar.proofs.laws.one_script.Goals as goal

pub returns : goal.returns
returns c = script_once
