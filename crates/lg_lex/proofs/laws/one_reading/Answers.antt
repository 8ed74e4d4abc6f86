use Rattle.lg_lex.proofs.LineLemmas.{reads_once}
use Rattle.lg_lex.proofs.laws.one_reading.Goals as goal

pub returns : goal.returns
returns c = reads_once
