use Rattle.std.proofs.Common.{sym, ◌∙◌, length}
use Rattle.std.proofs.lemmas.Bool.{eqb-true}
use Rattle.std.proofs.lemmas.List.{take_rest}
use Rattle.lg_parse.specs.Reading.{ahead}
use Rattle.lg_parse.proofs.CursorLemmas.{none_behind, searched_behind}
use Rattle.lg_parse.proofs.cursor.Cursor.has_comma.Goals as goal

pub returns-then-is_empty : goal.returns-then-is_empty
unfolding ahead
returns-then-is_empty c = none_behind c.args.self.now.rest.now (eqb-true (length c.args.self.now.rest.now) 0 (sym c.is_empty.ensures ∙ c.if-is_empty.true))

pub returns : goal.returns
unfolding ahead
returns c = searched_behind c.has_comma.result c.args.self.now.rest.now _ (take_rest c.args.self.now.rest.now 1) c.has_comma.ensures
