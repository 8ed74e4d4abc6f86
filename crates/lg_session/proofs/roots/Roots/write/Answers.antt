use Rattle.std.proofs.Common.{◌≡◌, Some, slice_get, sym, ap, ◌∙◌, rules}
use Rattle.std.proofs.lemmas.Option.{slice_get-get_or}
use Rattle.lg_tile.specs.Tiles.{numbers}
use Rattle.lg_operations.specs.Views.{view_of}
use Rattle.lg_session.specs.Stored.{IsViewOf}
use Rattle.lg_session.proofs.RootLemmas.{held_below, writes_at}
use Rattle.lg_session.proofs.roots.Roots.write.Goals as goal

pub returns : goal.returns
returns c =
    let roots = c.args.self.now in
    let view = view_of c.args.target.now in
    let slot = c.index_mut.result.now in
    let old = c.unwrap-root.result.now in
    let is : slot ≡ Some old = search rules in
    let below = held_below roots view.root (IsViewOf c.args.target.now) c.requires.held in
    let at : slice_get roots.tiles.items view.root ≡ Some (Some old) = slice_get-get_or roots.tiles.items view.root slot below ∙ ap Some (sym c.index_mut.ensures.value ∙ is) in
    writes_at roots view old c.write.new.self (numbers c.args.tile) at c.write.ensures.dtype c.write.ensures.rect c.write.ensures.puts
