use Rattle.lg_lex.proofs.LineLemmas.{fault_once}
use Rattle.lg_lex.proofs.laws.one_fault.Goals as goal

pub returns : goal.returns
returns c = fault_once
