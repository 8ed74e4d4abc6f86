use Rattle.std.proofs.Common.{◌≡◌, ℕ, ◌<◌, length, get_or}
use Rattle.lg_xform.specs.declared.axis.ViewAxis.{ViewAxis}
use Rattle.lg_xform.proofs.chain.steps.reordered.Given as goal

abbrev pub invariant-loop-j : goal.invariant-loop-j
invariant-loop-j l = record {
  room : length l.turned ≡ 4;
  so_far : (k : ℕ) (none : ViewAxis) → k < l.j → get_or l.turned k none ≡ get_or l.axes (get_or l.order k 0) none;
}
