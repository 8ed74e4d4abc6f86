use Rattle.std.proofs.Common.{sym, subst}
use Rattle.lg_tile.specs.Tiles.{numbers}
use Rattle.lg_xform.specs.Chains.{layout_of}
use Rattle.lg_session.specs.Puts.{Puts}
use Rattle.lg_session.proofs.Storing.{puts_replaced, puts_scattered, repeats_none}
use Rattle.lg_session.proofs.roots.WholeTile.write.Goals as goal

pub returns-then-is_whole-clause-puts : goal.returns-then-is_whole-clause-puts
returns-then-is_whole-clause-puts c =
    subst (λ tile. Puts (layout_of c.args.chain.now).places (numbers c.args.tile) (numbers c.args.self.now.tile) (numbers tile)) (sym c.replace.ensures.after)
    (puts_replaced c.args.chain.now c.args.tile c.args.self.now.tile c.requires.rect c.requires.root (c.is_whole.ensures c.if-is_whole.true))

pub scatter-requires-clause-once : goal.scatter-requires-clause-once
scatter-requires-clause-once c = repeats_none c.args.chain.now _ c.requires.rect c.requires.once

pub returns-clause-puts : goal.returns-clause-puts
returns-clause-puts c =
    puts_scattered c.args.chain.now c.args.tile c.args.self.now.tile c.scatter.new.root c.requires.rect c.requires.root c.scatter.ensures.rect c.scatter.ensures.written c.scatter.ensures.kept
