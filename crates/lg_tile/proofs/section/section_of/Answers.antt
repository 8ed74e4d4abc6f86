use Rattle.std.proofs.Common.{sym, ◌∙◌}
use Rattle.std.proofs.lemmas.Slice.Eq.{slice_eq-Decides}
use Rattle.lg_tile.proofs.SectionLemmas.{whole_section, same_ranges}
use Rattle.lg_tile.proofs.section.section_of.Goals as goal

pub returns-then-eq : goal.returns-then-eq
returns-then-eq g c =
    let same = (slice_eq-Decides same_ranges _ _ _ c.eq.ensures).0 c.if-eq.true in
    whole_section c.args.whole.now c.args.part.now c.args.items.now (sym c.ranges-2.ensures.value ∙ same ∙ c.ranges-3.ensures.value) c.requires.full
