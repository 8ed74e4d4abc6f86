use Rattle.lg_parse.proofs.HeadLemmas.{head_once}
use Rattle.lg_parse.proofs.laws.one_head.Goals as goal

pub returns : goal.returns
returns c = head_once
