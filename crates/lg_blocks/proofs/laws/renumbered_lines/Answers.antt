use Rattle.lg_blocks.proofs.Counted.{counted, rows_numbered, still_full}
use Rattle.lg_blocks.proofs.laws.renumbered_lines.Goals as goal

pub returns-clause-counted : goal.returns-clause-counted
returns-clause-counted c = counted

pub returns-clause-numbered : goal.returns-clause-numbered
returns-clause-numbered c = rows_numbered

pub returns-clause-full : goal.returns-clause-full
returns-clause-full c = still_full
