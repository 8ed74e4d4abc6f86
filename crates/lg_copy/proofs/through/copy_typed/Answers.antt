use Rattle.std.proofs.Common.{map, sym, subst}
use Rattle.lg_tile.specs.Tile.{tile_items, tile_rect}
use Rattle.lg_tile.specs.Tiles.{numbers}
use Rattle.lg_copy.specs.Copying.{Copied}
use Rattle.lg_copy.specs.Leading.{LeadsBoth}
use Rattle.lg_copy.proofs.Landing.{copied_map}
use Rattle.lg_copy.proofs.through.copy_typed.Goals as goal

pub returns-clause-copied : goal.returns-clause-copied
returns-clause-copied g c =
    let number = g.T.Elem.number in
    let first = c.args.first.now in
    let second = c.args.second.now in
    let target = tile_rect c.args.target.now in
    let source = tile_rect c.tile_of.result.now in
    let old = tile_items c.args.target.now in
    let new = tile_items c.copy_through.new.target in
    let xs = tile_items c.tile_of.result.now in
    let by_items = copied_map number xs old new (λ s q. LeadsBoth source first target second c.args.rect.now s q) c.copy_through.ensures.copied in
    record {
      copied = subst (λ rect. Copied (numbers c.args.source.now) (map number old) (map number new) (λ s q. LeadsBoth rect first target second c.args.rect.now s q)) (sym c.tile_of.ensures.1)
          (subst (λ ns. Copied ns (map number old) (map number new) (λ s q. LeadsBoth source first target second c.args.rect.now s q)) (sym c.tile_of.ensures.2) by_items);
    }
