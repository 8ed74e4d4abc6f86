use Rattle.std.proofs.Common.{◌≡◌, ◌-◌}
use Rattle.lg_lex.specs.declared.tokens.TokenKind.TheVariants.{RightParenthesis}
use Rattle.lg_parse.specs.declared.rules.Rule.TheVariants.{Expression}
use Rattle.lg_parse.specs.Parsing.{members, parse}
use Rattle.lg_parse.specs.Parts.{parsed_trees}
use Rattle.lg_parse.specs.Reading.{ahead}
use Rattle.lg_parse.proofs.grammar.Grammar.tree_members.Given as goal

-- what is left is read as the whole would be
abbrev pub invariant-loop-turn : goal.invariant-loop-turn
invariant-loop-turn g l =
    members (parse l.self.depth Expression) RightParenthesis l.turns (parsed_trees l.fn.first) (ahead l.fn.tokens) ≡ members (parse l.self.depth Expression) RightParenthesis (l.turns - l._turn) (parsed_trees l.found) (ahead l.tokens)
