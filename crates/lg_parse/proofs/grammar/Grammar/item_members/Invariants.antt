use Rattle.std.proofs.Common.{◌≡◌, ◌-◌, []}
use Rattle.lg_lex.specs.declared.tokens.TokenKind.TheVariants.{RightBracket}
use Rattle.lg_parse.specs.Parsing.{members, item, parse}
use Rattle.lg_parse.specs.Parts.{parsed_items}
use Rattle.lg_parse.specs.Reading.{ahead}
use Rattle.lg_parse.proofs.grammar.Grammar.item_members.Given as goal

-- what is left is read as the whole would be
abbrev pub invariant-loop-turn : goal.invariant-loop-turn
invariant-loop-turn g l =
    members (item (parse l.self.depth) l.self.depth) RightBracket l.turns [] (ahead l.fn.tokens) ≡ members (item (parse l.self.depth) l.self.depth) RightBracket (l.turns - l._turn) (parsed_items l.found) (ahead l.tokens)
