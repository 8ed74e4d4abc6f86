use Rattle.std.proofs.Common.{rules, arith}
use Rattle.std.proofs.lemmas.Grind.{common_steps}
use Rattle.lg_lex.specs.declared.tokens.TokenKind.TheVariants.{RightBracket}
use Rattle.lg_parse.specs.Parsing.{members, item, parse}
use Rattle.lg_parse.specs.Parts.{parsed_items}
use Rattle.lg_parse.specs.Reading.{ahead}
use Rattle.lg_parse.proofs.Turns.{one_more, no_more}
use Rattle.lg_parse.proofs.grammar.Grammar.item_members.Goals as goal

pub returns-then-eat : goal.returns-then-eat
unfolding members
returns-then-eat g c =
    let e = one_more (λ n. members (item (parse c.args.self.now.depth) c.args.self.now.depth) RightBracket n (parsed_items c.loop-turn.found) (ahead c.loop-turn.tokens)) _ c.loop-turn._turn c.loop-turn-test.true c.loop-turn.invariant in
    first_of (search rules, grind (arith, common_steps))

pub returns-in_err-item : goal.returns-in_err-item
unfolding members
returns-in_err-item g c =
    let e = one_more (λ n. members (item (parse c.args.self.now.depth) c.args.self.now.depth) RightBracket n (parsed_items c.loop-turn.found) (ahead c.loop-turn.tokens)) _ c.loop-turn._turn c.loop-turn-test.true c.loop-turn.invariant in
    first_of (search rules, grind (arith, common_steps))

pub returns-in_err-expect : goal.returns-in_err-expect
unfolding members
returns-in_err-expect g c =
    let e = one_more (λ n. members (item (parse c.args.self.now.depth) c.args.self.now.depth) RightBracket n (parsed_items c.loop-turn.found) (ahead c.loop-turn.tokens)) _ c.loop-turn._turn c.loop-turn-test.true c.loop-turn.invariant in
    first_of (search rules, grind (arith, common_steps))

pub returns-then-not-eat : goal.returns-then-not-eat
unfolding members
returns-then-not-eat g c =
    let e = one_more (λ n. members (item (parse c.args.self.now.depth) c.args.self.now.depth) RightBracket n (parsed_items c.loop-turn.found) (ahead c.loop-turn.tokens)) _ c.loop-turn._turn c.loop-turn-test.true c.loop-turn.invariant in
    first_of (search rules, grind (arith, common_steps))

pub loop-turn-preserved : goal.loop-turn-preserved
unfolding members
loop-turn-preserved g c =
    let e = one_more (λ n. members (item (parse c.args.self.now.depth) c.args.self.now.depth) RightBracket n (parsed_items c.loop-turn.found) (ahead c.loop-turn.tokens)) _ c.loop-turn._turn c.loop-turn-test.true c.loop-turn.invariant in
    first_of (search rules, grind (arith, common_steps))

pub returns : goal.returns
unfolding members
returns g c =
    let e = no_more (λ n. members (item (parse c.args.self.now.depth) c.args.self.now.depth) RightBracket n (parsed_items c.loop-turn.found) (ahead c.loop-turn.tokens)) _ c.loop-turn._turn c.loop-turn-test.false c.loop-turn.invariant in
    first_of (search rules, grind (arith, common_steps))
