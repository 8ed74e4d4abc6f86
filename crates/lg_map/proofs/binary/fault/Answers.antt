use Rattle.std.proofs.Common.{sym}
use Rattle.lg_elem.specs.Types.{wrap}
use Rattle.lg_map.specs.Columns.{listed, number_in}
use Rattle.lg_map.proofs.FlagLemmas.{other_flags}
use Rattle.lg_map.proofs.binary.fault.Goals as goal

pub returns-in_default : goal.returns-in_default
returns-in_default g c =
    sym (other_flags c.args.op (listed (λ place. wrap g.T.Elem.DTYPE (number_in g.T.Elem.number c.args.y.now place)) c.args.count) c.in_default.not-FloorDiv c.in_default.not-Rem c.in_default.not-Pow)
