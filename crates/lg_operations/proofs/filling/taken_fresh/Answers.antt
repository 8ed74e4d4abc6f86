use Rattle.std.proofs.Common.{◌≡◌, Ok, get_or, pos, refl, ap, subst, ◌∙◌, true, rules}
use Rattle.lg_elem.specs.Types.{IsNumber}
use Rattle.lg_space.specs.Rectangle.{volume_of}
use Rattle.lg_shape.specs.Shapes.{whole, size_of}
use Rattle.lg_tile.specs.Tiles.{dtype_of, numbers}
use Rattle.lg_tile.proofs.NumberLemmas.{numbers_full}
use Rattle.lg_meaning.specs.declared.fault.FaultKind.TheVariants.{Shape}
use Rattle.lg_meaning.specs.Assignments.{fills}
use Rattle.lg_meaning.specs.Faults.{needing}
use Rattle.lg_operations.specs.Operations.{fresh_value, extents_of}
use Rattle.lg_operations.proofs.Fillings.{fills_self, taken_self}
use Rattle.lg_operations.proofs.filling.taken_fresh.Goals as goal

pub returns-then-eq-2 : goal.returns-then-eq-2
returns-then-eq-2 c =
    let fresh = c.args.fresh in
    let shape = c.args.shape.now in
    let t = c.args.t in
    let type : dtype_of fresh.tile ≡ t = search rules in
    let same : extents_of fresh.tile ≡ shape = search rules in
    let fit : fills (extents_of fresh.tile) shape ≡ true = ap (λ s. fills s shape) same ∙ fills_self shape in (
      ap (λ b. needing b Shape (Ok tt)) fit,
      record {
        dtype = type;
        rect = c.requires.whole ∙ ap whole same;
        same = taken_self t shape (fresh_value fresh) same (numbers_full fresh.tile ∙ ap volume_of c.requires.whole ∙ ap size_of same)
            (λ place. subst (λ d. IsNumber d (get_or (numbers fresh.tile) place (pos 0))) type (c.numbers_fit.ensures place));
        fault = refl;
      },
    )
