use Rattle.std.proofs.Common.{◌≡◌, ◌-◌, ◌/◌, length, arith}
use Rattle.std.proofs.lemmas.Grind.{common_steps}
use Rattle.lg_space.specs.Rectangle.{volume_of}
use Rattle.lg_tile.specs.Blocks.{block, section}
use Rattle.lg_tile.proofs.SectionLemmas.{block_more}
use Rattle.lg_tile.proofs.section.+append_section.Goals as goal

pub loop-i-preserved : goal.loop-i-preserved
loop-i-preserved g t c =
    let all = c.in-Some-Some.all.now in
    let whole = c.in-Some-Some.whole.now in
    let size : length c.args.items.now / (all.1 - all.0) ≡ volume_of whole = grind (arith, common_steps) in
    block_more (λ i. section whole c.in-Some-Some.part.now (block (volume_of whole) c.args.items.now (i - all.0))) c.args.out.now.items c.loop-i.out.items c.append_section.new.out.items c.in-Some-Some.some.now.0 c.loop-i.i
    c.loop-i.auto.i c.loop-i.invariant (simp size at c.in_ok-append_section.ensures)
