use Rattle.std.proofs.Common.{◌∙◌}
use Rattle.lg_parse.specs.Reading.{ahead}
use Rattle.lg_parse.proofs.CursorLemmas.{second_some, second_none}
use Rattle.lg_parse.proofs.cursor.Cursor.second.Goals as goal

pub returns-clause-found : goal.returns-clause-found
unfolding ahead
returns-clause-found c = second_some _ c.args.self.now.rest.now (c.copied.ensures ∙ c.at.ensures)

pub returns-clause-none : goal.returns-clause-none
unfolding ahead
returns-clause-none c = second_none _ c.args.self.now.rest.now (c.copied.ensures ∙ c.at.ensures)
