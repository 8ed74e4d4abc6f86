use Rattle.std.proofs.Common.{rules, arith}
use Rattle.std.proofs.lemmas.Grind.{common_steps}
use Rattle.lg_lex.specs.declared.tokens.TokenKind.TheVariants.{RightBracket}
use Rattle.lg_parse.specs.Parsing.{members, entry_by, bracketed, parse}
use Rattle.lg_parse.specs.Parts.{parsed_lists}
use Rattle.lg_parse.specs.Reading.{ahead}
use Rattle.lg_parse.proofs.LevelLemmas.{bracketed_none, bracketed_some}
use Rattle.lg_parse.proofs.Turns.{one_more, no_more}
use Rattle.lg_parse.proofs.grammar.Grammar.+list.Goals as goal

pub entries-returns-then-eat : goal.entries-returns-then-eat
unfolding members
entries-returns-then-eat g t c =
    let e = one_more (λ n. members (entry_by (parse c.args.self.now.depth) c.args.self.now.depth (bracketed (parse c.args.self.now.depth) c.args.self.now.depth c.args.depth)) RightBracket n (parsed_lists c.loop-turn.found) (ahead c.loop-turn.tokens)) _ c.loop-turn._turn c.loop-turn-test.true c.loop-turn.invariant in
    first_of (search rules, grind (arith, common_steps))

pub entries-returns-in_err-entry : goal.entries-returns-in_err-entry
unfolding members
entries-returns-in_err-entry g t c =
    let e = one_more (λ n. members (entry_by (parse c.args.self.now.depth) c.args.self.now.depth (bracketed (parse c.args.self.now.depth) c.args.self.now.depth c.args.depth)) RightBracket n (parsed_lists c.loop-turn.found) (ahead c.loop-turn.tokens)) _ c.loop-turn._turn c.loop-turn-test.true c.loop-turn.invariant in
    first_of (search rules, grind (arith, common_steps))

pub entries-returns-in_err-expect : goal.entries-returns-in_err-expect
unfolding members
entries-returns-in_err-expect g t c =
    let e = one_more (λ n. members (entry_by (parse c.args.self.now.depth) c.args.self.now.depth (bracketed (parse c.args.self.now.depth) c.args.self.now.depth c.args.depth)) RightBracket n (parsed_lists c.loop-turn.found) (ahead c.loop-turn.tokens)) _ c.loop-turn._turn c.loop-turn-test.true c.loop-turn.invariant in
    first_of (search rules, grind (arith, common_steps))

pub entries-returns-then-not-eat : goal.entries-returns-then-not-eat
unfolding members
entries-returns-then-not-eat g t c =
    let e = one_more (λ n. members (entry_by (parse c.args.self.now.depth) c.args.self.now.depth (bracketed (parse c.args.self.now.depth) c.args.self.now.depth c.args.depth)) RightBracket n (parsed_lists c.loop-turn.found) (ahead c.loop-turn.tokens)) _ c.loop-turn._turn c.loop-turn-test.true c.loop-turn.invariant in
    first_of (search rules, grind (arith, common_steps))

pub entries-loop-turn-preserved : goal.entries-loop-turn-preserved
unfolding members
entries-loop-turn-preserved g t c =
    let e = one_more (λ n. members (entry_by (parse c.args.self.now.depth) c.args.self.now.depth (bracketed (parse c.args.self.now.depth) c.args.self.now.depth c.args.depth)) RightBracket n (parsed_lists c.loop-turn.found) (ahead c.loop-turn.tokens)) _ c.loop-turn._turn c.loop-turn-test.true c.loop-turn.invariant in
    first_of (search rules, grind (arith, common_steps))

pub entries-returns : goal.entries-returns
unfolding members
entries-returns g t c =
    let e = no_more (λ n. members (entry_by (parse c.args.self.now.depth) c.args.self.now.depth (bracketed (parse c.args.self.now.depth) c.args.self.now.depth c.args.depth)) RightBracket n (parsed_lists c.loop-turn.found) (ahead c.loop-turn.tokens)) _ c.loop-turn._turn c.loop-turn-test.false c.loop-turn.invariant in
    first_of (search rules, grind (arith, common_steps))

pub bracketed-returns : goal.bracketed-returns
bracketed-returns g t c =
    let e = bracketed_some (parse c.args.self.now.depth) c.args.self.now.depth c.args.depth (ahead c.args.tokens.now) (omega arith) in
    first_of (search rules, grind (arith, common_steps))

pub bracketed-returns-in_err-expect : goal.bracketed-returns-in_err-expect
bracketed-returns-in_err-expect g t c =
    let e = bracketed_some (parse c.args.self.now.depth) c.args.self.now.depth c.args.depth (ahead c.args.tokens.now) (omega arith) in
    first_of (search rules, grind (arith, common_steps))

pub bracketed-returns-in_err-found : goal.bracketed-returns-in_err-found
bracketed-returns-in_err-found g t c =
    let e = bracketed_some (parse c.args.self.now.depth) c.args.self.now.depth c.args.depth (ahead c.args.tokens.now) (omega arith) in
    first_of (search rules, grind (arith, common_steps))

pub bracketed-returns-in_err-list_of_entries : goal.bracketed-returns-in_err-list_of_entries
bracketed-returns-in_err-list_of_entries g t c =
    let e = bracketed_some (parse c.args.self.now.depth) c.args.self.now.depth c.args.depth (ahead c.args.tokens.now) (omega arith) in
    first_of (search rules, grind (arith, common_steps))

pub bracketed-returns-then-depth-eq0 : goal.bracketed-returns-then-depth-eq0
bracketed-returns-then-depth-eq0 g t c = bracketed_none (parse c.args.self.now.depth) c.args.self.now.depth c.args.depth _ (omega arith)
