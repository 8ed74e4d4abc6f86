use Rattle.std.proofs.Common.{refl, ◌++◌, ◌∙◌, codes, decimal}
use Rattle.legate.specs.Messages.{as_line}
use Rattle.legate.proofs.PartLemmas.{part_first, part_behind}
use Rattle.legate.proofs.messages.write_at_line.Goals as goal

pub returns-in_default-clause-part : goal.returns-in_default-clause-part
returns-in_default-clause-part g c =
    part_first _ _ _ (codes "line ") (decimal c.args.line ++ (codes ": " ++ as_line c.args.text.now)) refl c.in_default.ensures.part

pub returns-in_default-write_all-clause-part : goal.returns-in_default-write_all-clause-part
returns-in_default-write_all-clause-part g c =
    part_behind _ _ _ _ (codes "line ") (decimal c.args.line ++ (codes ": " ++ as_line c.args.text.now)) refl c.in-Ok.ensures.whole
    (part_first _ _ _ (decimal c.args.line) (codes ": " ++ as_line c.args.text.now) (c.as_bytes.ensures.value ∙ c.format.ensures.text) c.in_default-write_all.ensures.part)

pub returns-in_default-write_all-2-clause-part : goal.returns-in_default-write_all-2-clause-part
returns-in_default-write_all-2-clause-part g c =
    part_behind _ _ _ _ (codes "line ") (decimal c.args.line ++ (codes ": " ++ as_line c.args.text.now)) refl c.in-Ok.ensures.whole
    (part_behind _ _ _ _ (decimal c.args.line) (codes ": " ++ as_line c.args.text.now) (c.as_bytes.ensures.value ∙ c.format.ensures.text) c.in-Ok-write_all.ensures.whole
    (part_first _ _ _ (codes ": ") (as_line c.args.text.now) refl c.in_default-write_all-2.ensures.part))

pub returns-in_default-write_line-clause-part : goal.returns-in_default-write_line-clause-part
returns-in_default-write_line-clause-part g c =
    part_behind _ _ _ _ (codes "line ") (decimal c.args.line ++ (codes ": " ++ as_line c.args.text.now)) refl c.in-Ok.ensures.whole
    (part_behind _ _ _ _ (decimal c.args.line) (codes ": " ++ as_line c.args.text.now) (c.as_bytes.ensures.value ∙ c.format.ensures.text) c.in-Ok-write_all.ensures.whole
    (part_behind _ _ _ _ (codes ": ") (as_line c.args.text.now) refl c.in-Ok-write_all-2.ensures.whole c.in_default-write_line.ensures.part))
