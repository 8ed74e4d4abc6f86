use Rattle.std.proofs.Common.{◌≡◌, ◌<◌, ◌∷◌, [], length, pos, ◌+ℤ◌, ◌*ℤ◌, to_z, of_z, w64, rules, ap, subst, ◌∙◌, arith}
use Rattle.std.proofs.lemmas.Int.{ints}
use Rattle.lg_shape.specs.Shapes.{size_of}
use Rattle.lg_operations.specs.Gathering.{AllLie}
use Rattle.lg_operations.proofs.Gatherings.{base_lies, lie_split, lie_last, some_factors, rest_most, step_lies, rest_lie, gathered_point, gathered_more}
use Rattle.lg_operations.proofs.gathering.+append_all.Goals as goal

pub offset_bounds-items-base : goal.offset_bounds-items-base
offset_bounds-items-base g t c =
    let below = base_lies c.args.base (length c.args.items.now) c.args.strides.now c.args.extents.now c.requires.lie c.requires.some in
    omega (arith, below)

pub bounds-items-base : goal.bounds-items-base
bounds-items-base g t c = base_lies c.args.base (length c.args.items.now) c.args.strides.now c.args.extents.now c.requires.lie c.requires.some

pub returns-in_default : goal.returns-in_default
returns-in_default g t c =
    gathered_point c.args.items.now c.args.base c.args.strides.now c.args.extents.now c.args.out.now.items c.push.new.self.items c.index-items-base.result _
    c.in_default.ensures.cases
    (base_lies c.args.base (length c.args.items.now) c.args.strides.now c.args.extents.now c.requires.lie c.requires.some) c.index-items-base.is c.in_ok-push.ensures.items

pub append_axis-requires-clause-lie : goal.append_axis-requires-clause-lie
append_axis-requires-clause-lie g t c =
    let stride = c.in-Some-split_first.stride.now in
    let kept : stride ≡ to_z w64 (of_z w64 stride) = search rules in
    let lie = lie_split c.args.base (length c.args.items.now) c.args.strides.now c.in-Some-split_first.strides.now c.args.extents.now c.in-Some.extents.now stride c.in-Some.extent.now
    c.in-Some-split_first.ensures.cases.0 c.in-Some.ensures.cases.0 c.requires.lie in
    let none : length c.in-Some.extents.now ≡ 0 = grind (arith, c.if-is_empty.true, c.is_empty.ensures) in
    subst (λ s. AllLie c.args.base (s ∷ []) (c.in-Some.extent.now ∷ []) (length c.args.items.now)) kept
    (lie_last c.args.base (length c.args.items.now) c.in-Some-split_first.strides.now c.in-Some.extents.now stride c.in-Some.extent.now none lie)

pub further-next-requires-clause-base : goal.further-next-requires-clause-base
further-next-requires-clause-base g t c =
    let below = base_lies c.args.base (length c.args.items.now) c.args.strides.now c.args.extents.now c.requires.lie c.requires.some in
    omega (arith, below, c.requires.small)

pub further-next-requires-clause-low : goal.further-next-requires-clause-low
further-next-requires-clause-low g t c =
    let stride = c.in-Some-split_first.stride.now in
    let kept : stride ≡ to_z w64 (of_z w64 stride) = search rules in
    let lie = lie_split c.args.base (length c.args.items.now) c.args.strides.now c.in-Some-split_first.strides.now c.args.extents.now c.in-Some.extents.now stride c.in-Some.extent.now
    c.in-Some-split_first.ensures.cases.0 c.in-Some.ensures.cases.0 c.requires.lie in
    let some : 0 < size_of c.in-Some.extents.now =
    (some_factors c.in-Some.extent.now (size_of c.in-Some.extents.now) (subst (λ es. 0 < size_of es) c.in-Some.ensures.cases.0 c.requires.some)).1 in
    let at = step_lies c.args.base (length c.args.items.now) c.loop-k.k c.in-Some.extent.now stride c.in-Some-split_first.strides.now c.in-Some.extents.now lie c.loop-k-test.true some in
    let is = at.2 ∙ ap (λ s. pos c.args.base +ℤ (pos c.loop-k.k *ℤ s)) kept in
    omega (arith, ints, is)

pub further-next-requires-clause-high : goal.further-next-requires-clause-high
further-next-requires-clause-high g t c =
    let stride = c.in-Some-split_first.stride.now in
    let kept : stride ≡ to_z w64 (of_z w64 stride) = search rules in
    let lie = lie_split c.args.base (length c.args.items.now) c.args.strides.now c.in-Some-split_first.strides.now c.args.extents.now c.in-Some.extents.now stride c.in-Some.extent.now
    c.in-Some-split_first.ensures.cases.0 c.in-Some.ensures.cases.0 c.requires.lie in
    let some : 0 < size_of c.in-Some.extents.now =
    (some_factors c.in-Some.extent.now (size_of c.in-Some.extents.now) (subst (λ es. 0 < size_of es) c.in-Some.ensures.cases.0 c.requires.some)).1 in
    let at = step_lies c.args.base (length c.args.items.now) c.loop-k.k c.in-Some.extent.now stride c.in-Some-split_first.strides.now c.in-Some.extents.now lie c.loop-k-test.true some in
    let is = at.2 ∙ ap (λ s. pos c.args.base +ℤ (pos c.loop-k.k *ℤ s)) kept in
    omega (arith, ints, is, at.1, c.requires.small)

pub append_all-requires : goal.append_all-requires
append_all-requires g t c κs within =
    let stride = c.in-Some-split_first.stride.now in
    let inner = c.in-Some.extents.now in
    let kept : to_z w64 (of_z w64 stride) ≡ stride = search rules in
    let lie = lie_split c.args.base (length c.args.items.now) c.args.strides.now c.in-Some-split_first.strides.now c.args.extents.now inner stride c.in-Some.extent.now
    c.in-Some-split_first.ensures.cases.0 c.in-Some.ensures.cases.0 c.requires.lie in
    let both = some_factors c.in-Some.extent.now (size_of inner) (subst (λ es. 0 < size_of es) c.in-Some.ensures.cases.0 c.requires.some) in
    let is = c.further-next.ensures ∙ ap (λ s. pos c.args.base +ℤ (pos c.loop-k.k *ℤ s)) kept in (
      search rules,
      (
        search rules,
        (
          search rules,
          (
            both.1,
            (
              omega (arith, rest_most c.in-Some.extent.now (size_of inner) both.0, ap size_of c.in-Some.ensures.cases.0, c.requires.few),
              (
                c.requires.small,
                rest_lie c.args.base (length c.args.items.now) c.loop-k.k c.in-Some.extent.now c.further-next.result stride c.in-Some-split_first.strides.now inner lie c.loop-k-test.true is,
              ),
            ),
          ),
        ),
      ),
    )

pub loop-k-preserved : goal.loop-k-preserved
loop-k-preserved g t c =
    let stride = c.in-Some-split_first.stride.now in
    let kept : to_z w64 (of_z w64 stride) ≡ stride = search rules in
    let is = c.further-next.ensures ∙ ap (λ s. pos c.args.base +ℤ (pos c.loop-k.k *ℤ s)) kept in
    gathered_more c.args.items.now c.args.base c.further-next.result c.loop-k.k stride c.in-Some-split_first.strides.now c.in-Some.extents.now c.args.out.now.items c.loop-k.out.items
    c.append_all.new.out.items is c.loop-k.invariant c.in_ok-append_all.ensures
