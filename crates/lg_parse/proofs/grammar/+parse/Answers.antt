use Rattle.std.proofs.Common.{arith}
use Rattle.lg_parse.proofs.LevelLemmas.{parse_none, parse_expression, parse_unary}
use Rattle.lg_parse.proofs.grammar.+parse.Goals as goal

pub returns-then-depth-eq0 : goal.returns-then-depth-eq0
returns-then-depth-eq0 t c = parse_none c.args.depth c.args.rule _ (omega arith)

pub returns-in-Expression : goal.returns-in-Expression
returns-in-Expression t c = rw (parse_expression c.args.depth c.args.rule _ (omega arith) c.in-Expression.is) c.expression.ensures

pub returns-in-Unary : goal.returns-in-Unary
returns-in-Unary t c = rw (parse_unary c.args.depth c.args.rule _ (omega arith) c.in-Unary.is) c.unary.ensures
