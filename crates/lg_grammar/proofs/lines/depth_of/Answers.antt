use Rattle.std.proofs.Common.{sym, ◌∙◌}
use Rattle.std.proofs.lemmas.List.{take_rest}
use Rattle.lg_grammar.proofs.Depths.{at_depth, blank_behind, no_blocks}
use Rattle.lg_grammar.proofs.lines.depth_of.Goals as goal
use Rattle.lg_grammar.proofs.lines.depth_of.Goals.{then-spaces-ne0-via-then-spaces-ne0, then-spaces-ne0-via-else-spaces-ne0+then-spaces-gt-MAX_DEPTH}

pub returns-then-begins_blank-clause-none : goal.returns-then-begins_blank-clause-none
returns-then-begins_blank-clause-none c =
    blank_behind c.args.line.now _ c.spaces_in_front-spaces.result c.spaces_in_front-spaces.ensures.run (take_rest c.args.line.now c.spaces_in_front-spaces.result) (sym c.begins_blank.ensures ∙ c.if-begins_blank.true)

pub returns-then-spaces-ne0-clause-none : goal.returns-then-spaces-ne0-clause-none
returns-then-spaces-ne0-clause-none c =
    no_blocks c.args.line.now c.spaces_in_front-spaces.result c.spaces_in_front-spaces.ensures.run (λ whole. elim c.then-spaces-ne0.branch [
      | then-spaces-ne0-via-then-spaces-ne0 w ↦ absurd (w.if-spaces-ne0.true whole)
      | then-spaces-ne0-via-else-spaces-ne0+then-spaces-gt-MAX_DEPTH w ↦ w.if-spaces-gt-MAX_DEPTH.true
    ])

pub returns-clause-some : goal.returns-clause-some
returns-clause-some c =
    at_depth c.args.line.now _ c.spaces_in_front-spaces.result c.spaces_in_front-spaces.ensures.run (take_rest c.args.line.now c.spaces_in_front-spaces.result) (sym c.begins_blank.ensures ∙ c.if-begins_blank.false) c.if-spaces-ne0.false c.if-spaces-gt-MAX_DEPTH.false
