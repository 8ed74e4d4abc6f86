use Rattle.std.proofs.Common.{◌≡◌, drop, map}
use Rattle.lg_tree.specs.View.{list_of}
use Rattle.lg_session.proofs.ListLemmas.{rest_shape}
use Rattle.lg_session.proofs.lists.+list_shape.Given as goal

abbrev pub invariant-loop-other : goal.invariant-loop-other
invariant-loop-other l = rest_shape l.shape.items (map list_of (drop l.other-index l.others)) ≡ rest_shape l.shape.items (map list_of l.others)
