use Rattle.std.proofs.Common.{◌≡◌, refl, sym, ap, subst, ◌∙◌}
use Rattle.lg_tile.specs.Tiles.{dtype_of, numbers}
use Rattle.lg_xform.specs.Chains.{shape_of}
use Rattle.lg_meaning.specs.Text.{printed}
use Rattle.lg_operations.specs.Operations.{extents_of, operand_static, operand_value, seen_value}
use Rattle.lg_session.specs.Texts.{IsPrintedAs}
use Rattle.lg_operations.proofs.Shapes.{ends_of, ends-whole, whole_tile}
use Rattle.lg_session.proofs.text.printed_operand.Goals as goal

pub printed_array-requires-in-View : goal.printed_array-requires-in-View
printed_array-requires-in-View c = whole_tile c.in_ok-gather-in-View.field-0 (shape_of c.in-View.chain.now) c.in_ok-gather-in-View.ensures.rect

pub returns-in_ok-printed_array-in-View : goal.returns-in_ok-printed_array-in-View
returns-in_ok-printed_array-in-View c =
    let e = c.in_ok-gather-in-View.ensures in
    let extents : extents_of c.in_ok-gather-in-View.field-0 ≡ shape_of c.in-View.chain.now = ap ends_of e.rect ∙ ends-whole (shape_of c.in-View.chain.now) in
    let same : printed (dtype_of c.in_ok-gather-in-View.field-0) (extents_of c.in_ok-gather-in-View.field-0) (numbers c.in_ok-gather-in-View.field-0)
    ≡ printed (dtype_of c.in-View.tile.now) (shape_of c.in-View.chain.now) (seen_value c.in-View.tile.now c.in-View.chain.now).numbers
    = λ i. printed (e.dtype i) (extents i) (e.numbers i) in
    subst (λ o. IsPrintedAs (operand_static o) (operand_value o) c.in_ok-printed_array-in-View.field-0.items) (sym c.in-View.is)
    (record { sound = refl; same = c.in_ok-printed_array-in-View.ensures ∙ same })
