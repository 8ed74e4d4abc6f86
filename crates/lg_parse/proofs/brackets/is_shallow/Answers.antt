use Rattle.std.proofs.Common.{arith}
use Rattle.std.proofs.lemmas.List.{length-map}
use Rattle.lg_parse.specs.Reading.{terminal_of, terminals_view}
use Rattle.lg_parse.proofs.BracketLemmas.{shallow_end, turn_shallow, turn_deep}
use Rattle.lg_parse.proofs.brackets.is_shallow.Goals as goal

pub returns-then-opened-closed-clause-deep : goal.returns-then-opened-closed-clause-deep
returns-then-opened-closed-clause-deep c =
    turn_deep c.args.terminals.now c.loop-terminal.terminal-index _ c.loop-terminal.opened c.loop-terminal.closed c.opens-opened.result c.closes-closed.result c.loop-terminal-test.true c.opens-opened.ensures.count c.closes-closed.ensures.count c.if-opened-closed.true c.loop-terminal.invariant.shallow

pub loop-terminal-preserved : goal.loop-terminal-preserved
loop-terminal-preserved c = record {
  few_opened = omega (arith, c.opens-opened.ensures.one);
  few_closed = omega (arith, c.closes-closed.ensures.one);
  shallow = turn_shallow c.args.terminals.now c.loop-terminal.terminal-index _ c.loop-terminal.opened c.loop-terminal.closed c.opens-opened.result c.closes-closed.result c.loop-terminal-test.true c.opens-opened.ensures.count c.closes-closed.ensures.count c.if-opened-closed.false c.loop-terminal.invariant.shallow;
}

pub returns-clause-shallow : goal.returns-clause-shallow
returns-clause-shallow c =
    shallow_end (terminals_view c.args.terminals.now) c.loop-terminal.terminal-index c.loop-terminal.opened c.loop-terminal.closed (omega (arith, length-map c.args.terminals.now terminal_of)) c.loop-terminal.invariant.shallow
