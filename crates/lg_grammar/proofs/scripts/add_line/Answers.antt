use Rattle.std.proofs.Common.{Err, refl, ap, ◌∙◌}
use Rattle.lg_tree.specs.HeadView.{head_of}
use Rattle.lg_blocks.specs.Reader.{rows_read}
use Rattle.lg_grammar.specs.Lines.{EndsAdding}
use Rattle.lg_grammar.proofs.Found.{ends_adding, misplaced, err_end}
use Rattle.lg_grammar.proofs.scripts.add_line.Goals as goal

pub returns-in_err-depth-clause-end : goal.returns-in_err-depth-clause-end
returns-in_err-depth-clause-end c =
    err_end c.from_residual.result c.in_err-depth.field-0.0 (EndsAdding c.args.number c.args.line.now (rows_read c.args.reader.now)) c.from_residual.ensures.1 (ends_adding c.args.number c.args.line.now (rows_read c.args.reader.now) c.in_err-depth.field-0.0 c.in_err-depth.ensures.end)

pub returns-in-Err-Place-clause-end : goal.returns-in-Err-Place-clause-end
returns-in-Err-Place-clause-end c =
    (refl, misplaced c.args.line.now c.in-Some.depth (head_of c.in-Some.head) (rows_read c.args.reader.now) (rw c.in-Some.is at c.in_ok-depth.ensures.ok) (c.push.ensures.place.0 (c.in-Err-Place.is ∙ ap Err c.in-Err-Place.field-0-is)))
