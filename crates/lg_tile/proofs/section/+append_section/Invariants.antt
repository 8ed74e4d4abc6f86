use Rattle.std.proofs.Common.{◌≡◌, ◌++◌, ◌-◌, length}
use Rattle.std.specs.List.{flat_map, range_with_len}
use Rattle.lg_space.specs.Rectangle.{volume_of}
use Rattle.lg_tile.specs.Blocks.{block, section}
use Rattle.lg_tile.proofs.section.+append_section.Given as goal

abbrev pub decreases-append_section : goal.decreases-append_section
decreases-append_section g l = length l.whole.now

abbrev pub invariant-loop-i : goal.invariant-loop-i
invariant-loop-i g l =
    l.out.items ≡ l.initial.out.items ++ flat_map (λ i. section l.whole l.part (block (volume_of l.whole) l.items (i - l.all.0))) (range_with_len l.initial.i (l.i - l.initial.i))
