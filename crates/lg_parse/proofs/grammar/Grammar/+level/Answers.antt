use Rattle.std.proofs.Common.{◌-◌, rules, arith}
use Rattle.std.proofs.lemmas.Grind.{common_steps}
use Rattle.lg_parse.specs.Parsing.{parse, level, more}
use Rattle.lg_parse.specs.Parts.{parsed_tree}
use Rattle.lg_parse.specs.Reading.{ahead}
use Rattle.lg_parse.proofs.LevelLemmas.{level_none, level_some}
use Rattle.lg_parse.proofs.Turns.{one_more, no_more}
use Rattle.lg_parse.proofs.grammar.Grammar.+level.Goals as goal

pub returns-in_err-unary : goal.returns-in_err-unary
returns-in_err-unary g t c =
    let e = level_none (parse c.args.self.now.depth) c.args.self.now.depth c.args.level (ahead c.args.tokens.now) (omega arith) in
    first_of (search rules, grind (arith, common_steps))

pub returns-then-level-eq0 : goal.returns-then-level-eq0
returns-then-level-eq0 g t c =
    let e = level_none (parse c.args.self.now.depth) c.args.self.now.depth c.args.level (ahead c.args.tokens.now) (omega arith) in
    first_of (search rules, grind (arith, common_steps))

pub returns-in_err-left : goal.returns-in_err-left
returns-in_err-left g t c =
    let e = level_some (parse c.args.self.now.depth) c.args.self.now.depth c.args.level (ahead c.args.tokens.now) (omega arith) in
    first_of (search rules, grind (arith, common_steps))

pub loop-turn-init : goal.loop-turn-init
loop-turn-init g t c =
    let e = level_some (parse c.args.self.now.depth) c.args.self.now.depth c.args.level (ahead c.args.tokens.now) (omega arith) in
    first_of (search rules, grind (arith, common_steps))

pub returns-in_default : goal.returns-in_default
unfolding more
returns-in_default g t c =
    let e = one_more (λ n. more (level (parse c.args.self.now.depth) c.args.self.now.depth (c.args.level - 1)) c.args.level n (parsed_tree c.loop-turn.left) (ahead c.loop-turn.tokens)) _ c.loop-turn._turn c.loop-turn-test.true c.loop-turn.invariant in
    first_of (search rules, grind (arith, common_steps))

pub returns-in_err-right : goal.returns-in_err-right
unfolding more
returns-in_err-right g t c =
    let e = one_more (λ n. more (level (parse c.args.self.now.depth) c.args.self.now.depth (c.args.level - 1)) c.args.level n (parsed_tree c.loop-turn.left) (ahead c.loop-turn.tokens)) _ c.loop-turn._turn c.loop-turn-test.true c.loop-turn.invariant in
    first_of (search rules, grind (arith, common_steps))

pub returns-in_err-left-2 : goal.returns-in_err-left-2
unfolding more
returns-in_err-left-2 g t c =
    let e = one_more (λ n. more (level (parse c.args.self.now.depth) c.args.self.now.depth (c.args.level - 1)) c.args.level n (parsed_tree c.loop-turn.left) (ahead c.loop-turn.tokens)) _ c.loop-turn._turn c.loop-turn-test.true c.loop-turn.invariant in
    first_of (search rules, grind (arith, common_steps))

pub loop-turn-preserved : goal.loop-turn-preserved
unfolding more
loop-turn-preserved g t c =
    let e = one_more (λ n. more (level (parse c.args.self.now.depth) c.args.self.now.depth (c.args.level - 1)) c.args.level n (parsed_tree c.loop-turn.left) (ahead c.loop-turn.tokens)) _ c.loop-turn._turn c.loop-turn-test.true c.loop-turn.invariant in
    first_of (search rules, grind (arith, common_steps))

pub returns : goal.returns
unfolding more
returns g t c =
    let e = no_more (λ n. more (level (parse c.args.self.now.depth) c.args.self.now.depth (c.args.level - 1)) c.args.level n (parsed_tree c.loop-turn.left) (ahead c.loop-turn.tokens)) _ c.loop-turn._turn c.loop-turn-test.false c.loop-turn.invariant in
    first_of (search rules, grind (arith, common_steps))
