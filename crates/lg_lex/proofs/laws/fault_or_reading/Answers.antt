use Rattle.lg_lex.proofs.LineLemmas.{fault_none}
use Rattle.lg_lex.proofs.laws.fault_or_reading.Goals as goal

pub returns : goal.returns
returns c = fault_none
