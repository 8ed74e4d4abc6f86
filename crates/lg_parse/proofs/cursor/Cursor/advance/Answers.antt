use Rattle.std.proofs.Common.{sym, ap, ◌∙◌, length}
use Rattle.std.proofs.lemmas.Bool.{eqb-true}
use Rattle.std.proofs.lemmas.List.{take_rest}
use Rattle.lg_parse.specs.Reading.{ahead, terminals_view}
use Rattle.lg_parse.proofs.CursorLemmas.{behind_rest, behind_none}
use Rattle.lg_parse.proofs.cursor.Cursor.advance.Goals as goal

pub returns-then-not-is_empty : goal.returns-then-not-is_empty
unfolding ahead
returns-then-not-is_empty c = ap terminals_view (take_rest c.args.self.now.rest.now 1) ∙ behind_rest c.args.self.now.rest.now

pub returns-else-not-is_empty : goal.returns-else-not-is_empty
unfolding ahead
returns-else-not-is_empty c = behind_none c.args.self.now.rest.now (eqb-true (length c.args.self.now.rest.now) 0 (sym c.is_empty.ensures ∙ c.if-not-is_empty.false))
