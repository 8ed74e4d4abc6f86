use Rattle.std.proofs.Common.{◌≡◌, ℕ, ◌<◌, ◌≤◌, pos, length, get_or}
use Rattle.lg_space.specs.Rectangle.{place_in}
use Rattle.lg_xform.specs.Chains.{mapped}
use Rattle.lg_xform.specs.Copies.{IsStride}
use Rattle.lg_xform.proofs.chain.Chain.strides.Given as goal

-- the strides so far, and nothing behind them
abbrev pub invariant-loop-axis : goal.invariant-loop-axis
invariant-loop-axis l = record {
  room : length l.axes ≡ 4;
  so_far : (j : ℕ) → j < l.axis → IsStride (λ index. place_in l.tile (mapped l.self index)) l.rect j (get_or l.axes j (pos 0));
  behind : (j : ℕ) → l.axis ≤ j → get_or l.axes j (pos 0) ≡ pos 0;
}
