use Rattle.std.proofs.Common.{◌≡◌, ◌-◌}
use Rattle.lg_parse.specs.Parsing.{level, more, parse}
use Rattle.lg_parse.specs.Parts.{parsed_tree}
use Rattle.lg_parse.specs.Reading.{ahead}
use Rattle.lg_parse.proofs.grammar.Grammar.+level.Given as goal

abbrev pub decreases-level : goal.decreases-level
decreases-level g l = l.level

-- what is left of the level is read as the whole would be
abbrev pub invariant-loop-turn : goal.invariant-loop-turn
invariant-loop-turn g l =
    level (parse l.self.depth) l.self.depth l.level (ahead l.fn.tokens) ≡ more (level (parse l.self.depth) l.self.depth (l.level - 1)) l.level (l.turns - l._turn) (parsed_tree l.left) (ahead l.tokens)
