use Rattle.std.proofs.Common.{◌≡◌, take}
use Rattle.lg_parse.specs.Lexed.{terminals_of}
use Rattle.lg_parse.specs.Reading.{terminals_view}
use Rattle.lg_parse.proofs.terminals.as_terminals.Given as goal

-- the terminals so far are those of the tokens up to here
abbrev pub invariant-loop-token : goal.invariant-loop-token
invariant-loop-token l = terminals_view l.found.items ≡ terminals_of l.line (take l.token-index l.tokens)
