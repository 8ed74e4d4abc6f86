use Rattle.std.proofs.Common.{◌≡◌, ◌<◌, ◌++◌, arith, subst, sym, ap, ◌∙◌}
use Rattle.lg_space.specs.Rectangle.{volume_of}
use Rattle.lg_tile.specs.Blocks.{section}
use Rattle.lg_tile.specs.Sections.{IsSection}
use Rattle.lg_tile.proofs.SectionLemmas.{covered_part, section_stands}
use Rattle.lg_tile.proofs.section.copied.Goals as goal

pub append_section-requires-clause-part : goal.append_section-requires-clause-part
append_section-requires-clause-part g c =
    let filled : 0 < volume_of c.args.part.now = omega (arith, c.volume-count.ensures.value, c.if-count-eq0.false) in
    rw (c.ranges-2.ensures.value, c.ranges-3.ensures.value) (covered_part c.args.whole.now c.args.part.now filled c.requires.covers)

pub returns : goal.returns
returns g c =
    let whole = c.args.whole.now in
    let part = c.args.part.now in
    let items = c.args.items.now in
    let filled : 0 < volume_of part = omega (arith, c.volume-count.ensures.value, c.if-count-eq0.false) in
    let copy : c.append_section.new.out.items ≡ section whole part items =
    c.in_ok-append_section.ensures ∙ ap (λ l. l ++ section c.ranges-2.result.now c.ranges-3.result.now items) c.in_ok-copy.ensures.items
    ∙ ap (λ w. section w c.ranges-3.result.now items) c.ranges-2.ensures.value ∙ ap (λ p. section whole p items) c.ranges-3.ensures.value in
    subst (IsSection whole part items) (sym copy) (section_stands whole part items (covered_part whole part filled c.requires.covers) c.requires.full)
