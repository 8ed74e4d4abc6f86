use Rattle.std.proofs.Common.{◌≡◌, ℕ, ◌<◌, ◌≤◌, ◌↔◌, min, max, List, get_or, set, take, sym, ap, subst, ◌∙◌, arith}
use Rattle.lg_space.specs.Rectangle.{IsIn}
use Rattle.lg_space.specs.Stored.{IsStorable, padded}
use Rattle.lg_space.proofs.Splitting.{set_range, storable-set, ordered_at, in_below, in_above}
use Rattle.lg_space.proofs.cutting.split.Goals as goal
use Rattle.lg_space.proofs.cutting.split.Goals.{After-kept-below}

-- where the axis is cut
middle_is : (c : After-kept-below) → c.min-middle.result ≡ min (max c.args.at c.range-low.result.0) c.range-low.result.1
middle_is c = c.min-middle.ensures ∙ ap (λ n. min n c.range-low.result.1) c.max.ensures

-- the ranges with one of them written over
written : (c : After-kept-below) (range : ℕ × ℕ) → take c.axes-axes.result (set c.kept-below.result c.args.axis range) ≡ set c.args.rect.now c.args.axis range
written c range =
    set_range c.args.rect.now c.kept-below.result c.axes-axes.result c.args.axis range c.requires c.axes-axes.ensures
    (c.kept-below.ensures ∙ ap (padded (0, 0)) c.ranges-2.ensures.value)

storable : (c : After-kept-below) (range : ℕ × ℕ) → c.range-low.result.0 ≤ range.0 → range.0 ≤ range.1 → range.1 ≤ c.range-low.result.1
    → IsStorable (take c.axes-axes.result (set c.kept-below.result c.args.axis range))
storable c range from ordered to =
    subst IsStorable (sym (written c range))
    (storable-set c.args.rect.now c.args.axis c.range-low.result range c.ranges-2.ensures.storable c.range-low.ensures from ordered to)

pub new-requires : goal.new-requires
new-requires c =
    let d = (goal.at.new-requires c).After-kept-below in
    let middle = middle_is d in
    let ordered = ordered_at c.args.rect.now c.args.axis c.range-low.result c.ranges-2.ensures.storable c.range-low.ensures in
    storable d (c.range-low.result.0, c.min-middle.result) (omega arith) (omega arith) (omega arith)

pub new-requires-2 : goal.new-requires-2
new-requires-2 c =
    let d = (goal.at.new-requires-2 c).After-kept-below in
    let middle = middle_is d in
    let ordered = ordered_at c.args.rect.now c.args.axis c.range-low.result c.ranges-2.ensures.storable c.range-low.ensures in
    storable d (c.min-middle.result, c.range-low.result.1) (omega arith) (omega arith) (omega arith)

pub returns-clause-below : goal.returns-clause-below
returns-clause-below c index =
    let d = (goal.at.returns-clause-below c).After-kept-below in
    let same = c.new.ensures ∙ written d (c.range-low.result.0, c.min-middle.result) in
    subst (λ (r : List (ℕ × ℕ)). IsIn r index ↔ (IsIn c.args.rect.now index × (get_or index c.args.axis 0 < c.args.at))) (sym same)
    (in_below c.args.rect.now c.args.axis c.min-middle.result c.args.at c.range-low.result index c.range-low.ensures (middle_is d))

pub returns-clause-above : goal.returns-clause-above
returns-clause-above c index =
    let d = (goal.at.returns-clause-above c).After-kept-below in
    let same = c.new-2.ensures ∙ written d (c.min-middle.result, c.range-low.result.1) in
    subst (λ (r : List (ℕ × ℕ)). IsIn r index ↔ (IsIn c.args.rect.now index × (c.args.at ≤ get_or index c.args.axis 0))) (sym same)
    (in_above c.args.rect.now c.args.axis c.min-middle.result c.args.at c.range-low.result index c.range-low.ensures (middle_is d))
