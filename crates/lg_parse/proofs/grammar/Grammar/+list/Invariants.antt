use Rattle.std.proofs.Common.{◌≡◌, ◌-◌, ◌+◌, ◌*◌, []}
use Rattle.lg_lex.specs.declared.tokens.TokenKind.TheVariants.{RightBracket}
use Rattle.lg_parse.specs.Parsing.{members, entry_by, bracketed, parse}
use Rattle.lg_parse.specs.Parts.{parsed_lists}
use Rattle.lg_parse.specs.Reading.{ahead}
use Rattle.lg_parse.proofs.grammar.Grammar.+list.Given as goal

abbrev pub decreases-bracketed : goal.decreases-bracketed
decreases-bracketed g l = 3 * l.depth

abbrev pub decreases-entry : goal.decreases-entry
decreases-entry g l = 3 * l.depth + 1

abbrev pub decreases-entries : goal.decreases-entries
decreases-entries g l = 3 * l.depth + 2

-- what is left of a list is read as the whole would be
abbrev pub invariant-entries-loop-turn : goal.invariant-entries-loop-turn
invariant-entries-loop-turn g l =
    members (entry_by (parse l.self.depth) l.self.depth (bracketed (parse l.self.depth) l.self.depth l.depth)) RightBracket l.turns [] (ahead l.fn.tokens) ≡ members (entry_by (parse l.self.depth) l.self.depth (bracketed (parse l.self.depth) l.self.depth l.depth)) RightBracket (l.turns - l._turn) (parsed_lists l.found) (ahead l.tokens)
