use Rattle.std.proofs.Common.{◌≡◌, ◌+◌, ◌-◌, ◌≤◌, [], length, sum_by, ap, arith}
use Rattle.std.proofs.lemmas.Bool.{cond-false, lt-leb}
use Rattle.lg_tree.specs.View.{script_of}
use Rattle.lg_blocks.specs.Laws.{row_nodes}
use Rattle.lg_blocks.specs.Reader.{rows_read}
use Rattle.lg_grammar.specs.Lines.{lines_from, AddsLine}
use Rattle.lg_grammar.specs.Ends.{SpellsNone, NamesFirstBad}
use Rattle.lg_grammar.proofs.Found.{err_end}
use Rattle.lg_grammar.proofs.Reading.{read_nothing, read_more, adds_few, line_few, script_nodes, read_bad, bad_none, read_open, read_whole, script_once}
use Rattle.lg_grammar.proofs.scripts.read_script.Goals as goal

pub loop-start-init : goal.loop-start-init
loop-start-init c =
    let none : rows_read c.new-reader.result ≡ [] = c.new-reader.ensures in
    let small : sum_by row_nodes (rows_read c.new-reader.result) ≡ 0 = ap (sum_by row_nodes) none in
    record {
      within = omega arith;
      counted = omega arith;
      small = omega arith;
      read = read_nothing c.args.bytes.now (rows_read c.new-reader.result) none;
    }

pub returns-in_err-add_line-clause-none : goal.returns-in_err-add_line-clause-none
returns-in_err-add_line-clause-none c =
    err_end c.from_residual.result c.in_err-add_line.field-0.0 (SpellsNone c.args.bytes.now) c.from_residual.ensures.1 (bad_none c.args.bytes.now c.in_err-add_line.field-0.0 (read_bad c.args.bytes.now _ _ _ _ _ c.in_err-add_line.field-0.0 c.line_end-end.ensures.cut (rw c.without_return-line.ensures at c.in_err-add_line.ensures.end) c.loop-start.invariant.read))

pub returns-in_err-add_line-clause-first_bad : goal.returns-in_err-add_line-clause-first_bad
returns-in_err-add_line-clause-first_bad c =
    err_end c.from_residual.result c.in_err-add_line.field-0.0 (NamesFirstBad c.args.bytes.now) c.from_residual.ensures.1 (read_bad c.args.bytes.now _ _ _ _ _ c.in_err-add_line.field-0.0 c.line_end-end.ensures.cut (rw c.without_return-line.ensures at c.in_err-add_line.ensures.end) c.loop-start.invariant.read)

pub loop-start-preserved : goal.loop-start-preserved
loop-start-preserved c =
    let adds : AddsLine (c.loop-start.number + 1) c.without_return-line.result.now (rows_read c.loop-start.reader) (rows_read c.add_line.new.reader) = c.in_ok-add_line.ensures.ok in
    let few : length c.without_return-line.result.now ≤ c.line_end-end.result - c.loop-start.start = line_few c.args.bytes.now c.without_return-line.result.now c.loop-start.start c.line_end-end.result c.without_return-line.ensures in
    let more : sum_by row_nodes (rows_read c.add_line.new.reader) ≤ sum_by row_nodes (rows_read c.loop-start.reader) + length c.without_return-line.result.now = adds_few _ _ _ _ adds in
    record {
      within = omega (arith, c.line_end-end.ensures.within);
      counted = omega (arith, c.line_end-end.ensures.after, c.loop-start.invariant.counted);
      small = omega (arith, c.line_end-end.ensures.after, c.loop-start.invariant.small);
      read = read_more _ _ _ _ _ _ _ c.line_end-end.ensures.cut (rw c.without_return-line.ensures at adds) c.loop-start.invariant.read;
    }

pub returns-in_err-blocks-clause-none : goal.returns-in_err-blocks-clause-none
returns-in_err-blocks-clause-none c =
    let none : lines_from c.args.bytes.now c.loop-start.start ≡ [] = cond-false _ _ _ (lt-leb c.loop-start.start (length c.args.bytes.now) c.loop-start-test.false) in
    err_end c.from_residual-in_err-blocks.result c.in_err-blocks.field-0.0 (SpellsNone c.args.bytes.now) c.from_residual-in_err-blocks.ensures.1 (bad_none c.args.bytes.now c.in_err-blocks.field-0.0 (read_open c.args.bytes.now _ _ _ c.in_err-blocks.field-0.0 none c.in_err-blocks.ensures.end c.loop-start.invariant.read))

pub returns-in_err-blocks-clause-first_bad : goal.returns-in_err-blocks-clause-first_bad
returns-in_err-blocks-clause-first_bad c =
    let none : lines_from c.args.bytes.now c.loop-start.start ≡ [] = cond-false _ _ _ (lt-leb c.loop-start.start (length c.args.bytes.now) c.loop-start-test.false) in
    err_end c.from_residual-in_err-blocks.result c.in_err-blocks.field-0.0 (NamesFirstBad c.args.bytes.now) c.from_residual-in_err-blocks.ensures.1 (read_open c.args.bytes.now _ _ _ c.in_err-blocks.field-0.0 none c.in_err-blocks.ensures.end c.loop-start.invariant.read)

pub returns-clause-script : goal.returns-clause-script
returns-clause-script c =
    let none : lines_from c.args.bytes.now c.loop-start.start ≡ [] = cond-false _ _ _ (lt-leb c.loop-start.start (length c.args.bytes.now) c.loop-start-test.false) in
    read_whole c.args.bytes.now _ _ _ (script_of c.in_ok-blocks.field-0) none c.in_ok-blocks.ensures.rows c.in_ok-blocks.ensures.full c.loop-start.invariant.read

pub returns-clause-only : goal.returns-clause-only
returns-clause-only c =
    let none : lines_from c.args.bytes.now c.loop-start.start ≡ [] = cond-false _ _ _ (lt-leb c.loop-start.start (length c.args.bytes.now) c.loop-start-test.false) in
    λ other spelled. script_once c.args.bytes.now other (script_of c.in_ok-blocks.field-0) spelled (read_whole c.args.bytes.now _ _ _ (script_of c.in_ok-blocks.field-0) none c.in_ok-blocks.ensures.rows c.in_ok-blocks.ensures.full c.loop-start.invariant.read)

pub returns-clause-small : goal.returns-clause-small
returns-clause-small c =
    let same = script_nodes (script_of c.in_ok-blocks.field-0) (rows_read c.loop-start.reader) c.in_ok-blocks.ensures.rows in
    let few : sum_by row_nodes (rows_read c.loop-start.reader) ≤ c.loop-start.start - 1 = c.loop-start.invariant.small in
    let within : c.loop-start.start ≤ length c.args.bytes.now + 1 = c.loop-start.invariant.within in
    omega (arith, same)
