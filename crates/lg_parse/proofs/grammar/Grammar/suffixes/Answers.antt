use Rattle.std.proofs.Common.{rules, arith}
use Rattle.std.proofs.lemmas.Grind.{common_steps}
use Rattle.lg_parse.specs.Parsing.{suffixes, parse}
use Rattle.lg_parse.specs.Parts.{parsed_tree}
use Rattle.lg_parse.specs.Reading.{ahead}
use Rattle.lg_parse.proofs.Turns.{one_more, no_more}
use Rattle.lg_parse.proofs.grammar.Grammar.suffixes.Goals as goal

pub returns-in_err-left : goal.returns-in_err-left
unfolding suffixes
returns-in_err-left g c =
    let e = one_more (λ n. suffixes (parse c.args.self.now.depth) c.args.self.now.depth n (parsed_tree c.loop-turn.left) (ahead c.loop-turn.tokens)) _ c.loop-turn._turn c.loop-turn-test.true c.loop-turn.invariant in
    first_of (search rules, grind (arith, common_steps))

pub returns-in_err-left-2 : goal.returns-in_err-left-2
unfolding suffixes
returns-in_err-left-2 g c =
    let e = one_more (λ n. suffixes (parse c.args.self.now.depth) c.args.self.now.depth n (parsed_tree c.loop-turn.left) (ahead c.loop-turn.tokens)) _ c.loop-turn._turn c.loop-turn-test.true c.loop-turn.invariant in
    first_of (search rules, grind (arith, common_steps))

pub returns-else-eat-2 : goal.returns-else-eat-2
unfolding suffixes
returns-else-eat-2 g c =
    let e = one_more (λ n. suffixes (parse c.args.self.now.depth) c.args.self.now.depth n (parsed_tree c.loop-turn.left) (ahead c.loop-turn.tokens)) _ c.loop-turn._turn c.loop-turn-test.true c.loop-turn.invariant in
    first_of (search rules, grind (arith, common_steps))

pub loop-turn-preserved : goal.loop-turn-preserved
unfolding suffixes
loop-turn-preserved g c =
    let e = one_more (λ n. suffixes (parse c.args.self.now.depth) c.args.self.now.depth n (parsed_tree c.loop-turn.left) (ahead c.loop-turn.tokens)) _ c.loop-turn._turn c.loop-turn-test.true c.loop-turn.invariant in
    first_of (search rules, grind (arith, common_steps))

pub returns : goal.returns
unfolding suffixes
returns g c =
    let e = no_more (λ n. suffixes (parse c.args.self.now.depth) c.args.self.now.depth n (parsed_tree c.loop-turn.left) (ahead c.loop-turn.tokens)) _ c.loop-turn._turn c.loop-turn-test.false c.loop-turn.invariant in
    first_of (search rules, grind (arith, common_steps))
