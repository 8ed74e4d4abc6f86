use Rattle.std.proofs.Common.{◌≡◌, ◌-◌}
use Rattle.lg_parse.specs.Parsing.{suffixes, parse}
use Rattle.lg_parse.specs.Parts.{parsed_tree}
use Rattle.lg_parse.specs.Reading.{ahead}
use Rattle.lg_parse.proofs.grammar.Grammar.suffixes.Given as goal

-- what is left is read as the whole would be
abbrev pub invariant-loop-turn : goal.invariant-loop-turn
invariant-loop-turn g l =
    suffixes (parse l.self.depth) l.self.depth l.turns (parsed_tree l.fn.base) (ahead l.fn.tokens) ≡ suffixes (parse l.self.depth) l.self.depth (l.turns - l._turn) (parsed_tree l.left) (ahead l.tokens)
