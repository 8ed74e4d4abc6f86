use Rattle.std.proofs.Common.{◌≡◌, ◌⊎◌, ℕ, ◌<◌, List, Some, length, reverse, get_or, sym, ap, subst, ◌∙◌}
use Rattle.lg_shape.specs.Shapes.{joined_extent}
use Rattle.lg_shape.proofs.Broadcasts.{joins_stop, joins_all}
use Rattle.lg_shape.proofs.joining.broadcast.Goals as goal

pub returns-in_default-clause-shape : goal.returns-in_default-clause-shape
returns-in_default-clause-shape c =
    let none = c.in_default.ensures ∙ ap (λ x. joined_extent x c.from_last-in-loop-axis.result) c.from_last.ensures ∙ ap (joined_extent _) c.from_last-in-loop-axis.ensures in
    (joins_stop c.args.a.now c.args.b.now c.extents-first.result.now c.extents-second.result.now c.extents-first.ensures.value c.extents-second.ensures.value
    c.loop-axis.joined c.max-axes.result c.loop-axis.axis c.loop-axis.invariant none).none

pub returns-in_default-clause-first : goal.returns-in_default-clause-first
returns-in_default-clause-first c =
    let none = c.in_default.ensures ∙ ap (λ x. joined_extent x c.from_last-in-loop-axis.result) c.from_last.ensures ∙ ap (joined_extent _) c.from_last-in-loop-axis.ensures in
    (joins_stop c.args.a.now c.args.b.now c.extents-first.result.now c.extents-second.result.now c.extents-first.ensures.value c.extents-second.ensures.value
    c.loop-axis.joined c.max-axes.result c.loop-axis.axis c.loop-axis.invariant none).mismatch

pub new-requires : goal.new-requires
new-requires c =
    let joined =
    joins_all c.args.a.now c.args.b.now c.extents-first.result.now c.extents-second.result.now c.extents-first.ensures.value c.extents-second.ensures.value
    c.loop-axis.joined c.max-axes.result c.loop-axis.axis c.loop-axis.invariant c.extents-first.ensures.shape c.extents-second.ensures.shape c.max-axes.ensures c.loop-axis-test.false in
    joined.limits

pub returns-clause-shape : goal.returns-clause-shape
returns-clause-shape c =
    let joined =
    joins_all c.args.a.now c.args.b.now c.extents-first.result.now c.extents-second.result.now c.extents-first.ensures.value c.extents-second.ensures.value
    c.loop-axis.joined c.max-axes.result c.loop-axis.axis c.loop-axis.invariant c.extents-first.ensures.shape c.extents-second.ensures.shape c.max-axes.ensures c.loop-axis-test.false in
    ap Some c.new.ensures ∙ joined.shape

pub returns-clause-either : goal.returns-clause-either
returns-clause-either c =
    let joined =
    joins_all c.args.a.now c.args.b.now c.extents-first.result.now c.extents-second.result.now c.extents-first.ensures.value c.extents-second.ensures.value
    c.loop-axis.joined c.max-axes.result c.loop-axis.axis c.loop-axis.invariant c.extents-first.ensures.shape c.extents-second.ensures.shape c.max-axes.ensures c.loop-axis-test.false in
    let P : List ℕ → Type 0 = λ l. (k : ℕ) → k < length l → (get_or (reverse l) k 1 ≡ get_or (reverse c.args.a.now) k 1) ⊎ (get_or (reverse l) k 1 ≡ get_or (reverse c.args.b.now) k 1) in
    subst P (sym c.new.ensures) joined.either
