use Rattle.std.proofs.Common.{◌≡◌, drop, map}
use Rattle.lg_parse.specs.Keywords.{entry, found_in}
use Rattle.lg_parse.proofs.keywords.found_in.Given as goal

-- the words so far are others
abbrev pub invariant-loop-row : goal.invariant-loop-row
invariant-loop-row l =
    found_in l.word (map (λ p. entry p.0.now p.1) (drop l.row-index l.entries)) ≡ found_in l.word (map (λ p. entry p.0.now p.1) l.entries)
