use Rattle.std.proofs.Common.{◌≡◌, Some, ◌+◌, ◌<◌, pos, ◌+ℤ◌, ◌*ℤ◌, to_z, of_z, w64, length, [], ◌∷◌, rules, sym, ap, subst, ◌∙◌, arith}
use Rattle.std.proofs.lemmas.Int.{ints}
use Rattle.std.proofs.lemmas.Option.{slice_get-get_or}
use Rattle.lg_operations.specs.Gathering.{IsGathered}
use Rattle.lg_operations.proofs.Gatherings.{gathered_none, gathered_one, gathered_more, same_gathered, base_lies, run_gathered, run_fits, step_lies}
use Rattle.lg_operations.proofs.gathering.append_axis.Goals as goal

pub loop-k-init : goal.loop-k-init
loop-k-init g c =
    let kept : c.args.stride ≡ to_z w64 (of_z w64 c.args.stride) = search rules in
    subst (λ s. IsGathered c.args.items.now c.args.base (s ∷ []) (0 ∷ []) c.args.out.now.items c.args.out.now.items) kept
    (gathered_none c.args.items.now c.args.base (c.args.stride ∷ []) [] c.args.out.now.items)

pub offset_bounds-items-base : goal.offset_bounds-items-base
offset_bounds-items-base g c = omega (arith, base_lies c.args.base (length c.args.items.now) (c.args.stride ∷ []) (c.args.extent ∷ []) c.requires.lie (omega (arith, c.requires.some)))

pub bounds-items-base : goal.bounds-items-base
bounds-items-base g c = base_lies c.args.base (length c.args.items.now) (c.args.stride ∷ []) (c.args.extent ∷ []) c.requires.lie (omega (arith, c.requires.some))

pub returns-then-stride-eq0 : goal.returns-then-stride-eq0
returns-then-stride-eq0 g c =
    let kept : c.args.stride ≡ to_z w64 (of_z w64 c.args.stride) = search rules in
    let none : c.args.stride ≡ pos 0 = kept ∙ ap (to_z w64) c.if-stride-eq0.true in
    same_gathered c.append_same.result c.args.items.now c.args.out.now.items c.append_same.new.out.items c.args.base c.args.extent c.args.stride c.index-items-base.result _ none
    (base_lies c.args.base (length c.args.items.now) (c.args.stride ∷ []) (c.args.extent ∷ []) c.requires.lie (omega (arith, c.requires.some))) c.index-items-base.is c.append_same.ensures

pub append_run-requires : goal.append_run-requires
append_run-requires g c =
    let kept : c.args.stride ≡ to_z w64 (of_z w64 c.args.stride) = search rules in
    let one : c.args.stride ≡ pos 1 = kept ∙ ap (to_z w64) c.if-stride-eq1.true in
    run_fits c.args.base c.args.extent (length c.args.items.now) c.args.stride one c.requires.some c.requires.lie

pub returns-then-stride-eq1 : goal.returns-then-stride-eq1
returns-then-stride-eq1 g c =
    let kept : c.args.stride ≡ to_z w64 (of_z w64 c.args.stride) = search rules in
    let one : c.args.stride ≡ pos 1 = kept ∙ ap (to_z w64) c.if-stride-eq1.true in
    run_gathered c.append_run.result c.args.items.now c.args.out.now.items c.append_run.new.out.items c.args.base c.args.extent c.args.stride one
    (run_fits c.args.base c.args.extent (length c.args.items.now) c.args.stride one c.requires.some c.requires.lie) c.append_run.ensures

pub further-requires-clause-base : goal.further-requires-clause-base
further-requires-clause-base g c =
    let at = step_lies c.args.base (length c.args.items.now) 0 c.args.extent c.args.stride [] [] c.requires.lie c.requires.some (omega arith) in
    omega (arith, ints, at.1, at.2, c.requires.small)

pub further-requires-clause-low : goal.further-requires-clause-low
further-requires-clause-low g c =
    let kept : c.args.stride ≡ to_z w64 (of_z w64 c.args.stride) = search rules in
    let at = step_lies c.args.base (length c.args.items.now) c.loop-k.k c.args.extent c.args.stride [] [] c.requires.lie c.loop-k-test.true (omega arith) in
    let is = at.2 ∙ ap (λ s. pos c.args.base +ℤ (pos c.loop-k.k *ℤ s)) kept in
    omega (arith, ints, is)

pub further-requires-clause-high : goal.further-requires-clause-high
further-requires-clause-high g c =
    let kept : c.args.stride ≡ to_z w64 (of_z w64 c.args.stride) = search rules in
    let at = step_lies c.args.base (length c.args.items.now) c.loop-k.k c.args.extent c.args.stride [] [] c.requires.lie c.loop-k-test.true (omega arith) in
    let is = at.2 ∙ ap (λ s. pos c.args.base +ℤ (pos c.loop-k.k *ℤ s)) kept in
    omega (arith, ints, is, at.1, c.requires.small)

pub offset_bounds-items-further : goal.offset_bounds-items-further
offset_bounds-items-further g c =
    let kept : c.args.stride ≡ to_z w64 (of_z w64 c.args.stride) = search rules in
    let at = step_lies c.args.base (length c.args.items.now) c.loop-k.k c.args.extent c.args.stride [] [] c.requires.lie c.loop-k-test.true (omega arith) in
    let is = at.2 ∙ ap (λ s. pos c.args.base +ℤ (pos c.loop-k.k *ℤ s)) kept in
    omega (arith, ints, is, at.1, c.further.ensures)

pub bounds-items-further : goal.bounds-items-further
bounds-items-further g c =
    let kept : c.args.stride ≡ to_z w64 (of_z w64 c.args.stride) = search rules in
    let at = step_lies c.args.base (length c.args.items.now) c.loop-k.k c.args.extent c.args.stride [] [] c.requires.lie c.loop-k-test.true (omega arith) in
    let is = at.2 ∙ ap (λ s. pos c.args.base +ℤ (pos c.loop-k.k *ℤ s)) kept in
    omega (arith, ints, is, at.1, c.further.ensures)

pub loop-k-preserved : goal.loop-k-preserved
loop-k-preserved g c =
    let source = c.args.items.now in
    let stride = to_z w64 (of_z w64 c.args.stride) in
    let mid = c.loop-k.out.items in
    let x = c.index-items-further.result in
    let at = step_lies c.args.base (length source) c.loop-k.k c.args.extent c.args.stride [] [] c.requires.lie c.loop-k-test.true (omega arith) in
    let kept : c.args.stride ≡ stride = search rules in
    let is = at.2 ∙ ap (λ s. pos c.args.base +ℤ (pos c.loop-k.k *ℤ s)) kept in
    let below : c.further.result < length source = omega (arith, ints, is, at.1, c.further.ensures) in
    let one = gathered_one source c.further.result [] mid x (slice_get-get_or source c.further.result x below ∙ ap Some (sym c.index-items-further.is)) in
    subst (IsGathered source c.args.base (stride ∷ []) ((c.loop-k.k + 1) ∷ []) c.args.out.now.items) (sym c.in_ok-push.ensures.items)
    (gathered_more source c.args.base c.further.result c.loop-k.k stride [] [] c.args.out.now.items mid _ c.further.ensures c.loop-k.invariant one)
