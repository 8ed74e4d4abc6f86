use Rattle.std.proofs.Common.{◌≤◌, length, arith}
use Rattle.std.proofs.lemmas.List.{length-map}
use Rattle.lg_tree.specs.HeadView.{head_of}
use Rattle.lg_parse.specs.ParsingHeads.{EndsHead}
use Rattle.lg_parse.specs.Reading.{ahead, terminal_of, terminals_view}
use Rattle.lg_tree.specs.Heads.{head_nodes}
use Rattle.lg_parse.specs.Statements.{HoldsHead}
use Rattle.lg_parse.proofs.ResultLemmas.{err_end}
use Rattle.lg_parse.proofs.HeadLemmas.{head_small}
use Rattle.lg_parse.proofs.EndingLemmas.{ends_none, ends_left, held}
use Rattle.lg_parse.proofs.statements.read_head.Goals as goal

pub returns-in_err-head-clause-end : goal.returns-in_err-head-clause-end
returns-in_err-head-clause-end c =
    let ts = terminals_view c.args.terminals.now in
    err_end c.from_residual.result c.in_err-head.field-0.0 (EndsHead ts) c.from_residual.ensures.1 (ends_none ts (ahead c.new-tokens.result) (ahead c.head.new.tokens) c.in_err-head.field-0.0 c.new-tokens.ensures c.in_err-head.ensures.read)

pub returns-then-left-gt0-clause-end : goal.returns-then-left-gt0-clause-end
returns-then-left-gt0-clause-end c =
    ends_left (terminals_view c.args.terminals.now) (ahead c.new-tokens.result) (ahead c.head.new.tokens) (head_of c.in_ok-head.head) c.new-tokens.ensures c.in_ok-head.ensures.read (omega (arith, c.left.ensures))

pub returns-clause-found : goal.returns-clause-found
returns-clause-found c =
    held (terminals_view c.args.terminals.now) (ahead c.new-tokens.result) (ahead c.head.new.tokens) (head_of c.in_ok-head.head) c.new-tokens.ensures c.in_ok-head.ensures.read (omega (arith, c.left.ensures)) c.if-not-is_shallow.ensures.shallow c.in_ok-head.ensures.low

pub returns-clause-small : goal.returns-clause-small
returns-clause-small c =
    let h : HoldsHead (terminals_view c.args.terminals.now) (head_of c.in_ok-head.head) = held (terminals_view c.args.terminals.now) (ahead c.new-tokens.result) (ahead c.head.new.tokens) (head_of c.in_ok-head.head) c.new-tokens.ensures c.in_ok-head.ensures.read (omega (arith, c.left.ensures)) c.if-not-is_shallow.ensures.shallow c.in_ok-head.ensures.low in
    let s : head_nodes (head_of c.in_ok-head.head) ≤ length (terminals_view c.args.terminals.now) = head_small h.spelled in
    omega (arith, length-map c.args.terminals.now terminal_of)
