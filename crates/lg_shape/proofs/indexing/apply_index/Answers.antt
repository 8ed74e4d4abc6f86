use Rattle.std.proofs.Common.{◌+◌, ◌-◌, ◌++◌, length, sym, ap, ◌∙◌, arith}
use Rattle.lg_shape.specs.Indexing.{index_fault}
use Rattle.lg_shape.specs.IndexSteps.{cut_steps, promote_steps}
use Rattle.lg_shape.proofs.Plain.{plain_steps}
use Rattle.lg_shape.proofs.Checking.{checked_by, checked_taken, checked_too_many, done_by}
use Rattle.lg_shape.proofs.indexing.apply_index.Goals as goal

pub add_cuts-requires-clause-taken : goal.add_cuts-requires-clause-taken
add_cuts-requires-clause-taken c =
    let extents = c.extents-extents.result.now in
    let items = c.args.items.now in
    let counted = c.counts_of-counts.ensures in
    let result = c.counts_of-counts.result in
    let same = c.extents-extents.ensures.value in
    let checked = checked_by c.args.shape.now extents items result.integers result.slices result.ellipses same c.extents-extents.ensures.shape counted.named counted.ellipses c.if-counts-gt1.false c.if-named-extents.false in
    checked_taken extents items _ checked

pub returns-then-extents-counts-gt-MAX_AXES-clause-fault :
    goal.returns-then-extents-counts-gt-MAX_AXES-clause-fault
returns-then-extents-counts-gt-MAX_AXES-clause-fault c =
    let extents = c.extents-extents.result.now in
    let items = c.args.items.now in
    let counted = c.counts_of-counts.ensures in
    let result = c.counts_of-counts.result in
    let same = c.extents-extents.ensures.value in
    let checked = checked_by c.args.shape.now extents items result.integers result.slices result.ellipses same c.extents-extents.ensures.shape counted.named counted.ellipses c.if-counts-gt1.false c.if-named-extents.false in
    sym (ap (λ s. index_fault s items) (sym same)
    ∙ checked_too_many extents items (length extents - (result.integers + result.slices)) checked (sym c.in_ok-add_cuts.ensures.fault)
    (omega (arith, c.if-extents-counts-gt-MAX_AXES.true, counted.integers, counted.new_axes)))

pub add_promotes-requires-clause-axes : goal.add_promotes-requires-clause-axes
add_promotes-requires-clause-axes c =
    let extents = c.extents-extents.result.now in
    let items = c.args.items.now in
    let counted = c.counts_of-counts.ensures in
    let result = c.counts_of-counts.result in
    let same = c.extents-extents.ensures.value in
    let checked = checked_by c.args.shape.now extents items result.integers result.slices result.ellipses same c.extents-extents.ensures.shape counted.named counted.ellipses c.if-counts-gt1.false c.if-named-extents.false in
    let missing = length extents - (result.integers + result.slices) in
    let done = done_by c.args.shape.now extents items missing result.integers result.new_axes same checked counted.integers counted.new_axes c.if-extents-counts-gt-MAX_AXES.false c.in_ok-add_cuts.ensures.fault in
    done.axes_small

pub add_promotes-requires-clause-room : goal.add_promotes-requires-clause-room
add_promotes-requires-clause-room c =
    let extents = c.extents-extents.result.now in
    let items = c.args.items.now in
    let counted = c.counts_of-counts.ensures in
    let result = c.counts_of-counts.result in
    let same = c.extents-extents.ensures.value in
    let checked = checked_by c.args.shape.now extents items result.integers result.slices result.ellipses same c.extents-extents.ensures.shape counted.named counted.ellipses c.if-counts-gt1.false c.if-named-extents.false in
    let missing = length extents - (result.integers + result.slices) in
    let done = done_by c.args.shape.now extents items missing result.integers result.new_axes same checked counted.integers counted.new_axes c.if-extents-counts-gt-MAX_AXES.false c.in_ok-add_cuts.ensures.fault in
    done.room c.add_cuts.new.steps.items c.add_cuts.new.steps.capacity (c.in_ok-add_cuts.ensures.steps ∙ ap (λ l. l ++ cut_steps 0 missing extents items) c.new-steps.ensures.items)
    (c.in_ok-add_cuts.ensures.capacity ∙ c.new-steps.ensures.capacity)

pub returns-clause-fault : goal.returns-clause-fault
returns-clause-fault c =
    let extents = c.extents-extents.result.now in
    let items = c.args.items.now in
    let counted = c.counts_of-counts.ensures in
    let result = c.counts_of-counts.result in
    let same = c.extents-extents.ensures.value in
    let checked = checked_by c.args.shape.now extents items result.integers result.slices result.ellipses same c.extents-extents.ensures.shape counted.named counted.ellipses c.if-counts-gt1.false c.if-named-extents.false in
    let missing = length extents - (result.integers + result.slices) in
    let done = done_by c.args.shape.now extents items missing result.integers result.new_axes same checked counted.integers counted.new_axes c.if-extents-counts-gt-MAX_AXES.false c.in_ok-add_cuts.ensures.fault in
    done.no_fault

pub returns-clause-few : goal.returns-clause-few
returns-clause-few c =
    let extents = c.extents-extents.result.now in
    let items = c.args.items.now in
    let counted = c.counts_of-counts.ensures in
    let result = c.counts_of-counts.result in
    let same = c.extents-extents.ensures.value in
    let checked = checked_by c.args.shape.now extents items result.integers result.slices result.ellipses same c.extents-extents.ensures.shape counted.named counted.ellipses c.if-counts-gt1.false c.if-named-extents.false in
    let missing = length extents - (result.integers + result.slices) in
    let done = done_by c.args.shape.now extents items missing result.integers result.new_axes same checked counted.integers counted.new_axes c.if-extents-counts-gt-MAX_AXES.false c.in_ok-add_cuts.ensures.fault in
    done.count c.add_promotes.new.steps.items (c.add_promotes.ensures.steps ∙ ap (λ l. l ++ promote_steps 0 missing items)
    (c.in_ok-add_cuts.ensures.steps ∙ ap (λ l. l ++ cut_steps 0 missing extents items) c.new-steps.ensures.items))

pub returns-clause-allowed : goal.returns-clause-allowed
returns-clause-allowed c =
    let extents = c.extents-extents.result.now in
    let items = c.args.items.now in
    let counted = c.counts_of-counts.ensures in
    let result = c.counts_of-counts.result in
    let same = c.extents-extents.ensures.value in
    let checked = checked_by c.args.shape.now extents items result.integers result.slices result.ellipses same c.extents-extents.ensures.shape counted.named counted.ellipses c.if-counts-gt1.false c.if-named-extents.false in
    let missing = length extents - (result.integers + result.slices) in
    let done = done_by c.args.shape.now extents items missing result.integers result.new_axes same checked counted.integers counted.new_axes c.if-extents-counts-gt-MAX_AXES.false c.in_ok-add_cuts.ensures.fault in
    done.allowed c.add_promotes.new.steps.items (c.add_promotes.ensures.steps ∙ ap (λ l. l ++ promote_steps 0 missing items)
    (c.in_ok-add_cuts.ensures.steps ∙ ap (λ l. l ++ cut_steps 0 missing extents items) c.new-steps.ensures.items))

pub returns-clause-plain : goal.returns-clause-plain
returns-clause-plain c =
    let extents = c.extents-extents.result.now in
    let items = c.args.items.now in
    let result = c.counts_of-counts.result in
    let missing = length extents - (result.integers + result.slices) in
    plain_steps missing extents items c.add_promotes.new.steps.items (c.add_promotes.ensures.steps ∙ ap (λ l. l ++ promote_steps 0 missing items)
    (c.in_ok-add_cuts.ensures.steps ∙ ap (λ l. l ++ cut_steps 0 missing extents items) c.new-steps.ensures.items))

pub returns-clause-picks : goal.returns-clause-picks
returns-clause-picks c =
    let extents = c.extents-extents.result.now in
    let items = c.args.items.now in
    let counted = c.counts_of-counts.ensures in
    let result = c.counts_of-counts.result in
    let same = c.extents-extents.ensures.value in
    let checked = checked_by c.args.shape.now extents items result.integers result.slices result.ellipses same c.extents-extents.ensures.shape counted.named counted.ellipses c.if-counts-gt1.false c.if-named-extents.false in
    let missing = length extents - (result.integers + result.slices) in
    let done = done_by c.args.shape.now extents items missing result.integers result.new_axes same checked counted.integers counted.new_axes c.if-extents-counts-gt-MAX_AXES.false c.in_ok-add_cuts.ensures.fault in
    done.picks c.add_promotes.new.steps.items (c.add_promotes.ensures.steps ∙ ap (λ l. l ++ promote_steps 0 missing items)
    (c.in_ok-add_cuts.ensures.steps ∙ ap (λ l. l ++ cut_steps 0 missing extents items) c.new-steps.ensures.items))

pub returns-clause-limits : goal.returns-clause-limits
returns-clause-limits c =
    let extents = c.extents-extents.result.now in
    let items = c.args.items.now in
    let counted = c.counts_of-counts.ensures in
    let result = c.counts_of-counts.result in
    let same = c.extents-extents.ensures.value in
    let checked = checked_by c.args.shape.now extents items result.integers result.slices result.ellipses same c.extents-extents.ensures.shape counted.named counted.ellipses c.if-counts-gt1.false c.if-named-extents.false in
    let missing = length extents - (result.integers + result.slices) in
    let done = done_by c.args.shape.now extents items missing result.integers result.new_axes same checked counted.integers counted.new_axes c.if-extents-counts-gt-MAX_AXES.false c.in_ok-add_cuts.ensures.fault in
    done.within
