use Rattle.lg_blocks.proofs.Counted.{nodes_counted, listed, as_high}
use Rattle.lg_blocks.proofs.laws.rows_have_all.Goals as goal

pub returns-clause-nodes : goal.returns-clause-nodes
returns-clause-nodes c = nodes_counted

pub returns-clause-listed : goal.returns-clause-listed
returns-clause-listed c = listed

pub returns-clause-height : goal.returns-clause-height
returns-clause-height c = as_high
