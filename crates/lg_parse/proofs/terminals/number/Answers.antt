use Rattle.std.proofs.Common.{sym}
use Rattle.lg_lex.proofs.DecimalLemmas.{number_some, number_value}
use Rattle.lg_parse.proofs.terminals.number.Goals as goal

pub number_of-requires : goal.number_of-requires
number_of-requires c = number_some c.args.text.now c.requires

pub returns : goal.returns
returns c = sym (number_value c.args.text.now c.in-Some.value c.in-Some.ensures.small c.in-Some.ensures.found)
