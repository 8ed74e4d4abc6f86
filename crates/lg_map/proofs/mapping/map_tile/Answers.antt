use Rattle.std.proofs.Common.{map, sym, subst, ◌∙◌}
use Rattle.lg_map.specs.declared.operation.MapOp.TheVariants as ops
use Rattle.lg_map.specs.Mapping.{IsMap, Maps}
use Rattle.lg_space.specs.Rectangle.{indices}
use Rattle.lg_map.specs.Columns.{IsListed}
use Rattle.lg_map.proofs.FlagLemmas.{no_flags}
use Rattle.lg_map.proofs.Constants.{constant_kept}
use Rattle.lg_map.proofs.mapping.map_tile.Goals as goal

pub returns-in_ok-fill-in-Fill : goal.returns-in_ok-fill-in-Fill
returns-in_ok-fill-in-Fill c =
    let tiles = map (λ input. input.now) c.args.inputs.now in
    let rect = c.args.rect.now in
    let fits = subst (λ op. IsMap op tiles rect c.args.t) c.in-Fill.is c.requires in
    subst (λ op. Maps op c.args.t tiles rect c.in_ok-fill-in-Fill.field-0) (sym c.in-Fill.is)
    (subst (λ x. Maps (ops.Fill x) c.args.t tiles rect c.in_ok-fill-in-Fill.field-0) (constant_kept c.in-Fill.x fits) c.in_ok-fill-in-Fill.ensures)

pub returns-in_ok-count-in-Count : goal.returns-in_ok-count-in-Count
returns-in_ok-count-in-Count c =
    let tiles = map (λ input. input.now) c.args.inputs.now in
    let rect = c.args.rect.now in
    let fits = subst (λ op. IsMap op tiles rect c.args.t) c.in-Count.is c.requires in
    subst (λ op. Maps op c.args.t tiles rect c.in_ok-count-in-Count.field-0) (sym c.in-Count.is)
    (subst (λ x. Maps (ops.Count x) c.args.t tiles rect c.in_ok-count-in-Count.field-0) (constant_kept c.in-Count.first fits.0) c.in_ok-count-in-Count.ensures)

pub returns-in_ok-list-in-List : goal.returns-in_ok-list-in-List
returns-in_ok-list-in-List c =
    let tiles = map (λ input. input.now) c.args.inputs.now in
    let rect = c.args.rect.now in
    let made = subst (λ list. IsListed c.args.t c.in-List.shape list rect c.in_ok-list-in-List.field-0) c.as_slice.ensures c.in_ok-list-in-List.ensures in
    subst (λ op. Maps op c.args.t tiles rect c.in_ok-list-in-List.field-0) (sym c.in-List.is)
    (made.0, made.1, made.2, made.3 ∙ sym (no_flags (indices rect)))
