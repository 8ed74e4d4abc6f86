use Rattle.std.proofs.Common.{refl, [], ◌∷◌}
use Rattle.legate.proofs.PartLemmas.{part_first}
use Rattle.legate.proofs.messages.write_line.Goals as goal

pub returns-in_default-clause-part : goal.returns-in_default-clause-part
returns-in_default-clause-part g c = part_first _ _ _ c.args.text.now (10 ∷ []) refl c.in_default.ensures.part
