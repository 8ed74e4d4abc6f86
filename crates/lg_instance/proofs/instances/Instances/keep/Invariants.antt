use Rattle.std.proofs.Common.{◌≡◌, length}
use Rattle.lg_instance.specs.Kept.{contents}
use Rattle.lg_instance.proofs.Roots.{AreKept}
use Rattle.lg_instance.proofs.instances.Instances.keep.Given as goal

abbrev pub invariant-loop-root : goal.invariant-loop-root
invariant-loop-root l = record {
  so_far : AreKept l.roots (contents l.fn.self) (contents l.self) l.root (length l.fn.self.tiles.items);
  all : l.root-end ≡ length l.fn.self.tiles.items;
}
