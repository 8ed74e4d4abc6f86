use Rattle.std.proofs.Common.{◌≡◌, length, get_or, take, Some, refl, sym, ap, ◌∙◌, arith, rules, subst, List, ℕ}
use Rattle.std.proofs.lemmas.List.{length-set}
use Rattle.lg_space.specs.Rectangle.{IsIn}
use Rattle.lg_shape.specs.Shapes.{whole, place_of}
use Rattle.lg_xform.specs.Moves.{steps}
use Rattle.lg_xform.specs.Chains.{mapped}
use Rattle.lg_xform.proofs.Edits.{none}
use Rattle.lg_xform.proofs.Points.{extent_below, known_at, all_axes, mapped_inside, mapped_place}
use Rattle.lg_xform.proofs.chain.Chain.map_point.Goals as goal

pub bounds-index-k : goal.bounds-index-k
bounds-index-k c =
    let self = c.args.self.now in
    let p = c.args.p.now in
    let long : length self.axes ≡ 4 = search rules in
    let wide : length self.from ≡ 4 = search rules in
    let value = c.coordinates-index.ensures.value in
    let inv = c.loop-k.invariant in
    let known = known_at self p long wide c.requires c.loop-k.at c.loop-k.k c.loop-k-test.true inv.room inv.leads _ refl in
    omega (arith, known.reached, ap length value)

pub steps-requires : goal.steps-requires
steps-requires c =
    let self = c.args.self.now in
    let p = c.args.p.now in
    let long : length self.axes ≡ 4 = search rules in
    let wide : length self.from ≡ 4 = search rules in
    let value = c.coordinates-index.ensures.value in
    let inv = c.loop-k.invariant in
    let below = extent_below self p long wide c.requires c.loop-k.at c.loop-k.k c.loop-k-test.true inv.room inv.leads in
    omega (arith, below, ap (λ i. get_or i c.loop-k.k 0) value)

pub overflow_mul-at : goal.overflow_mul-at
overflow_mul-at c =
    let self = c.args.self.now in
    let p = c.args.p.now in
    let long : length self.axes ≡ 4 = search rules in
    let wide : length self.from ≡ 4 = search rules in
    let value = c.coordinates-index.ensures.value in
    let inv = c.loop-k.invariant in
    let n_is = c.steps.ensures ∙ ap (λ i. steps (get_or self.axes c.loop-k.k none).down (get_or self.axes c.loop-k.k none).extent (get_or i c.loop-k.k 0)) value in
    let known = known_at self p long wide c.requires c.loop-k.at c.loop-k.k c.loop-k-test.true inv.room inv.leads c.steps.result n_is in
    omega (arith, known.fits)

pub overflow_add-at : goal.overflow_add-at
overflow_add-at c =
    let self = c.args.self.now in
    let p = c.args.p.now in
    let long : length self.axes ≡ 4 = search rules in
    let wide : length self.from ≡ 4 = search rules in
    let value = c.coordinates-index.ensures.value in
    let inv = c.loop-k.invariant in
    let n_is = c.steps.ensures ∙ ap (λ i. steps (get_or self.axes c.loop-k.k none).down (get_or self.axes c.loop-k.k none).extent (get_or i c.loop-k.k 0)) value in
    let known = known_at self p long wide c.requires c.loop-k.at c.loop-k.k c.loop-k-test.true inv.room inv.leads c.steps.result n_is in
    omega (arith, known.fits)

pub bounds-at-axis : goal.bounds-at-axis
bounds-at-axis c =
    let self = c.args.self.now in
    let p = c.args.p.now in
    let long : length self.axes ≡ 4 = search rules in
    let wide : length self.from ≡ 4 = search rules in
    let value = c.coordinates-index.ensures.value in
    let inv = c.loop-k.invariant in
    let n_is = c.steps.ensures ∙ ap (λ i. steps (get_or self.axes c.loop-k.k none).down (get_or self.axes c.loop-k.k none).extent (get_or i c.loop-k.k 0)) value in
    let known = known_at self p long wide c.requires c.loop-k.at c.loop-k.k c.loop-k-test.true inv.room inv.leads c.steps.result n_is in
    known.rooted

pub offset_bounds-at-axis : goal.offset_bounds-at-axis
offset_bounds-at-axis c =
    let self = c.args.self.now in
    let p = c.args.p.now in
    let long : length self.axes ≡ 4 = search rules in
    let wide : length self.from ≡ 4 = search rules in
    let value = c.coordinates-index.ensures.value in
    let inv = c.loop-k.invariant in
    let n_is = c.steps.ensures ∙ ap (λ i. steps (get_or self.axes c.loop-k.k none).down (get_or self.axes c.loop-k.k none).extent (get_or i c.loop-k.k 0)) value in
    let known = known_at self p long wide c.requires c.loop-k.at c.loop-k.k c.loop-k-test.true inv.room inv.leads c.steps.result n_is in
    omega (arith, known.rooted)

pub loop-k-preserved : goal.loop-k-preserved
loop-k-preserved c =
    let self = c.args.self.now in
    let p = c.args.p.now in
    let long : length self.axes ≡ 4 = search rules in
    let wide : length self.from ≡ 4 = search rules in
    let value = c.coordinates-index.ensures.value in
    let inv = c.loop-k.invariant in
    let n_is = c.steps.ensures ∙ ap (λ i. steps (get_or self.axes c.loop-k.k none).down (get_or self.axes c.loop-k.k none).extent (get_or i c.loop-k.k 0)) value in
    let known = known_at self p long wide c.requires c.loop-k.at c.loop-k.k c.loop-k-test.true inv.room inv.leads c.steps.result n_is in
    record {
      room = length-set c.loop-k.at (get_or self.axes c.loop-k.k none).root _ ∙ inv.room;
      leads = known.next;
    }

pub returns-clause-value : goal.returns-clause-value
returns-clause-value c =
    let self = c.args.self.now in
    let p = c.args.p.now in
    let long : length self.axes ≡ 4 = search rules in
    let wide : length self.from ≡ 4 = search rules in
    let value = c.coordinates-index.ensures.value in
    let all = all_axes self p long wide c.requires c.loop-k.at c.loop-k.k c.loop-k-test.false c.loop-k.invariant.leads in
    let is : c.new.result ≡ mapped self p = c.new.ensures ∙ (λ i. take (length (c.extents.ensures.value i)) (all i)) in
    is

pub returns-clause-inside : goal.returns-clause-inside
returns-clause-inside c =
    let self = c.args.self.now in
    let p = c.args.p.now in
    let long : length self.axes ≡ 4 = search rules in
    let wide : length self.from ≡ 4 = search rules in
    let value = c.coordinates-index.ensures.value in
    let all = all_axes self p long wide c.requires c.loop-k.at c.loop-k.k c.loop-k-test.false c.loop-k.invariant.leads in
    let is : c.new.result ≡ mapped self p = c.new.ensures ∙ (λ i. take (length (c.extents.ensures.value i)) (all i)) in
    subst (IsIn (whole self.root)) (sym is) (mapped_inside self p long wide c.requires)

pub returns-clause-place : goal.returns-clause-place
returns-clause-place c =
    let self = c.args.self.now in
    let p = c.args.p.now in
    let long : length self.axes ≡ 4 = search rules in
    let wide : length self.from ≡ 4 = search rules in
    let value = c.coordinates-index.ensures.value in
    let all = all_axes self p long wide c.requires c.loop-k.at c.loop-k.k c.loop-k-test.false c.loop-k.invariant.leads in
    let is : c.new.result ≡ mapped self p = c.new.ensures ∙ (λ i. take (length (c.extents.ensures.value i)) (all i)) in
    mapped_place self p long wide c.requires ∙ ap (λ (i : List ℕ). Some (place_of self.root i)) (sym is)
