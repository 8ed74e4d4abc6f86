use Rattle.std.proofs.Common.{rules, arith}
use Rattle.std.proofs.lemmas.Grind.{common_steps}
use Rattle.lg_parse.specs.declared.rules.Rule.TheVariants.{Expression}
use Rattle.lg_parse.specs.Parsing.{extents, parse}
use Rattle.lg_parse.specs.Parts.{parsed_trees}
use Rattle.lg_parse.specs.Reading.{ahead}
use Rattle.lg_parse.proofs.Turns.{one_more, no_more}
use Rattle.lg_parse.proofs.grammar.Grammar.extents.Goals as goal

pub returns-in_err-extent : goal.returns-in_err-extent
unfolding extents
returns-in_err-extent g c =
    let e = one_more (λ n. extents (parse c.args.self.now.depth Expression) n (parsed_trees c.loop-turn.found) (ahead c.loop-turn.tokens)) _ c.loop-turn._turn c.loop-turn-test.true c.loop-turn.invariant in
    first_of (search rules, grind (arith, common_steps))

pub returns-then-not-eat : goal.returns-then-not-eat
unfolding extents
returns-then-not-eat g c =
    let e = one_more (λ n. extents (parse c.args.self.now.depth Expression) n (parsed_trees c.loop-turn.found) (ahead c.loop-turn.tokens)) _ c.loop-turn._turn c.loop-turn-test.true c.loop-turn.invariant in
    first_of (search rules, grind (arith, common_steps))

pub loop-turn-preserved : goal.loop-turn-preserved
unfolding extents
loop-turn-preserved g c =
    let e = one_more (λ n. extents (parse c.args.self.now.depth Expression) n (parsed_trees c.loop-turn.found) (ahead c.loop-turn.tokens)) _ c.loop-turn._turn c.loop-turn-test.true c.loop-turn.invariant in
    first_of (search rules, grind (arith, common_steps))

pub returns : goal.returns
unfolding extents
returns g c =
    let e = no_more (λ n. extents (parse c.args.self.now.depth Expression) n (parsed_trees c.loop-turn.found) (ahead c.loop-turn.tokens)) _ c.loop-turn._turn c.loop-turn-test.false c.loop-turn.invariant in
    first_of (search rules, grind (arith, common_steps))
