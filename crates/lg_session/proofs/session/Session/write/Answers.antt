use Rattle.std.proofs.Common.{◌≡◌, None, rules}
use Rattle.lg_tile.specs.Tiles.{numbers}
use Rattle.lg_session.specs.Roots.{contents}
use Rattle.lg_session.proofs.WriteHeld.{are_held_written, represents_written, held_once, tile_count}
use Rattle.lg_session.proofs.session.Session.write.Goals as goal

pub invariant_of-self-clause-held : goal.invariant_of-self-clause-held
invariant_of-self-clause-held c =
    are_held_written (contents c.args.self.now.roots) (contents c.write.new.self) c.args.target.now (numbers c.args.taken.tile) c.write.ensures c.args.self.now.names c.args.self.now.held

pub returns-in-None-clause-outcome : goal.returns-in-None-clause-outcome
returns-in-None-clause-outcome c = λ state there values stands inside shown is.
    let A = contents c.args.self.now.roots in
    let target = c.args.target.now in
    let none : c.args.taken.fault ≡ None = search rules in
    record {
      sound = none;
      stands = represents_written A (contents c.write.new.self) target (numbers c.args.taken.tile) c.write.ensures c.args.self.now.names state there values stands inside shown
          (held_once A target c.requires.held c.requires.right) is (tile_count c.args.taken.tile target c.requires.rect);
    }
