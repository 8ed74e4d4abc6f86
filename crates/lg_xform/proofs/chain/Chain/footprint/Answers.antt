use Rattle.std.proofs.Common.{◌≡◌, ◌∙◌, ℕ, ◌-◌, ◌<◌, true, false, length, map, sym, ap, subst, arith, rules}
use Rattle.lg_space.specs.Rectangle.{IsIn, volume_of}
use Rattle.lg_space.specs.Stored.{IsStorable}
use Rattle.lg_shape.specs.Shapes.{whole}
use Rattle.lg_xform.specs.Corners.{corner_of, boxed}
use Rattle.lg_xform.specs.Chains.{axes_of, shape_of, mapped}
use Rattle.lg_xform.specs.Footprints.{IsFootprint}
use Rattle.lg_xform.proofs.Corners.{corner_there, corner_inside, length-mapped, holds, storable, exact, inside_root, lows-boxed, highs-boxed, no_index, empty_has_none}
use Rattle.lg_xform.proofs.chain.Chain.footprint.Goals as goal

pub returns-then-volume-eq0-clause-holds : goal.returns-then-volume-eq0-clause-holds
returns-then-volume-eq0-clause-holds c = λ index h.
    let none : volume_of c.args.tile.now ≡ 0 = omega (arith, c.volume.ensures.value, c.if-volume-eq0.true) in
    absurd (no_index c.args.tile.now index none h)

pub returns-then-volume-eq0-clause-exact : goal.returns-then-volume-eq0-clause-exact
returns-then-volume-eq0-clause-exact c = λ dense at.
    let none : volume_of c.args.tile.now ≡ 0 = omega (arith, c.volume.ensures.value, c.if-volume-eq0.true) in
    (λ h. absurd (empty_has_none c.args.self.now.root at (subst (λ r. IsIn r at) c.empty.ensures h)), λ l. absurd (no_index c.args.tile.now l.0 none l.1))

pub map_point-low-requires : goal.map_point-low-requires
map_point-low-requires c =
    let self = c.args.self.now in
    let tile = c.args.tile.now in
    let long : length self.axes ≡ 4 = search rules in
    let wide : length self.from ≡ 4 = search rules in
    let some : 0 < volume_of tile = omega (arith, c.volume.ensures.value, c.if-volume-eq0.false) in
    subst (IsIn (whole (shape_of self))) (sym c.corner.ensures) (corner_inside self tile long wide c.requires.tile some false)

pub map_point-high-requires : goal.map_point-high-requires
map_point-high-requires c =
    let self = c.args.self.now in
    let tile = c.args.tile.now in
    let long : length self.axes ≡ 4 = search rules in
    let wide : length self.from ≡ 4 = search rules in
    let some : 0 < volume_of tile = omega (arith, c.volume.ensures.value, c.if-volume-eq0.false) in
    subst (IsIn (whole (shape_of self))) (sym c.corner-2.ensures) (corner_inside self tile long wide c.requires.tile some true)

pub between-requires-clause-same : goal.between-requires-clause-same
between-requires-clause-same c =
    let self = c.args.self.now in
    let tile = c.args.tile.now in
    let long : length self.axes ≡ 4 = search rules in
    let wide : length self.from ≡ 4 = search rules in
    let some : 0 < volume_of tile = omega (arith, c.volume.ensures.value, c.if-volume-eq0.false) in
    let near = mapped self (corner_of false (axes_of self) tile) in
    let far = mapped self (corner_of true (axes_of self) tile) in
    let low : c.map_point-low.result ≡ near = c.map_point-low.ensures.value ∙ ap (mapped self) c.corner.ensures in
    let high : c.map_point-high.result ≡ far = c.map_point-high.ensures.value ∙ ap (mapped self) c.corner-2.ensures in
    let same : length near ≡ length far = length-mapped self tile long wide c.requires.tile some (corner_of false (axes_of self) tile) ∙ sym (length-mapped self tile long wide c.requires.tile some (corner_of true (axes_of self) tile)) in
    ap length low ∙ same ∙ sym (ap length high)

pub between-requires-clause-storable : goal.between-requires-clause-storable
between-requires-clause-storable c =
    let self = c.args.self.now in
    let tile = c.args.tile.now in
    let long : length self.axes ≡ 4 = search rules in
    let wide : length self.from ≡ 4 = search rules in
    let some : 0 < volume_of tile = omega (arith, c.volume.ensures.value, c.if-volume-eq0.false) in
    let near = mapped self (corner_of false (axes_of self) tile) in
    let far = mapped self (corner_of true (axes_of self) tile) in
    let low : c.map_point-low.result ≡ near = c.map_point-low.ensures.value ∙ ap (mapped self) c.corner.ensures in
    let high : c.map_point-high.result ≡ far = c.map_point-high.ensures.value ∙ ap (mapped self) c.corner-2.ensures in
    subst (λ l. IsStorable (boxed l c.map_point-high.result)) (sym low) (subst (λ h. IsStorable (boxed near h)) (sym high) (storable self tile long wide c.requires.tile some c.requires.root))

pub returns-clause-holds : goal.returns-clause-holds
returns-clause-holds c =
    let self = c.args.self.now in
    let tile = c.args.tile.now in
    let long : length self.axes ≡ 4 = search rules in
    let wide : length self.from ≡ 4 = search rules in
    let some : 0 < volume_of tile = omega (arith, c.volume.ensures.value, c.if-volume-eq0.false) in
    let near = mapped self (corner_of false (axes_of self) tile) in
    let far = mapped self (corner_of true (axes_of self) tile) in
    let low : c.map_point-low.result ≡ near = c.map_point-low.ensures.value ∙ ap (mapped self) c.corner.ensures in
    let high : c.map_point-high.result ≡ far = c.map_point-high.ensures.value ∙ ap (mapped self) c.corner-2.ensures in
    let is : c.between.result ≡ boxed near far = c.between.ensures ∙ (λ i. boxed (low i) (high i)) in
    λ index h. subst (λ r. IsIn r (mapped self index)) (sym is) (holds self tile long wide c.requires.tile some index h)

pub returns-clause-low : goal.returns-clause-low
returns-clause-low c =
    let self = c.args.self.now in
    let tile = c.args.tile.now in
    let long : length self.axes ≡ 4 = search rules in
    let wide : length self.from ≡ 4 = search rules in
    let some : 0 < volume_of tile = omega (arith, c.volume.ensures.value, c.if-volume-eq0.false) in
    let near = mapped self (corner_of false (axes_of self) tile) in
    let far = mapped self (corner_of true (axes_of self) tile) in
    let low : c.map_point-low.result ≡ near = c.map_point-low.ensures.value ∙ ap (mapped self) c.corner.ensures in
    let high : c.map_point-high.result ≡ far = c.map_point-high.ensures.value ∙ ap (mapped self) c.corner-2.ensures in
    let is : c.between.result ≡ boxed near far = c.between.ensures ∙ (λ i. boxed (low i) (high i)) in
    let same : length near ≡ length far = length-mapped self tile long wide c.requires.tile some (corner_of false (axes_of self) tile) ∙ sym (length-mapped self tile long wide c.requires.tile some (corner_of true (axes_of self) tile)) in
    let lows : near ≡ map (λ (range : ℕ × ℕ). range.0) c.between.result = sym (lows-boxed near far same) ∙ ap (map (λ (range : ℕ × ℕ). range.0)) (sym is) in
    λ has. (corner_of false (axes_of self) tile, corner_there self tile long wide c.requires.tile some false, lows)

pub returns-clause-high : goal.returns-clause-high
returns-clause-high c =
    let self = c.args.self.now in
    let tile = c.args.tile.now in
    let long : length self.axes ≡ 4 = search rules in
    let wide : length self.from ≡ 4 = search rules in
    let some : 0 < volume_of tile = omega (arith, c.volume.ensures.value, c.if-volume-eq0.false) in
    let near = mapped self (corner_of false (axes_of self) tile) in
    let far = mapped self (corner_of true (axes_of self) tile) in
    let low : c.map_point-low.result ≡ near = c.map_point-low.ensures.value ∙ ap (mapped self) c.corner.ensures in
    let high : c.map_point-high.result ≡ far = c.map_point-high.ensures.value ∙ ap (mapped self) c.corner-2.ensures in
    let is : c.between.result ≡ boxed near far = c.between.ensures ∙ (λ i. boxed (low i) (high i)) in
    let same : length near ≡ length far = length-mapped self tile long wide c.requires.tile some (corner_of false (axes_of self) tile) ∙ sym (length-mapped self tile long wide c.requires.tile some (corner_of true (axes_of self) tile)) in
    let highs : far ≡ map (λ (range : ℕ × ℕ). range.1 - 1) c.between.result = sym (highs-boxed near far same) ∙ ap (map (λ (range : ℕ × ℕ). range.1 - 1)) (sym is) in
    λ has. (corner_of true (axes_of self) tile, corner_there self tile long wide c.requires.tile some true, highs)

pub returns-clause-exact : goal.returns-clause-exact
returns-clause-exact c =
    let self = c.args.self.now in
    let tile = c.args.tile.now in
    let long : length self.axes ≡ 4 = search rules in
    let wide : length self.from ≡ 4 = search rules in
    let some : 0 < volume_of tile = omega (arith, c.volume.ensures.value, c.if-volume-eq0.false) in
    let near = mapped self (corner_of false (axes_of self) tile) in
    let far = mapped self (corner_of true (axes_of self) tile) in
    let low : c.map_point-low.result ≡ near = c.map_point-low.ensures.value ∙ ap (mapped self) c.corner.ensures in
    let high : c.map_point-high.result ≡ far = c.map_point-high.ensures.value ∙ ap (mapped self) c.corner-2.ensures in
    let is : c.between.result ≡ boxed near far = c.between.ensures ∙ (λ i. boxed (low i) (high i)) in
    λ dense. subst (IsFootprint (mapped self) tile) (sym is) (exact self tile long wide c.requires.tile some dense)

pub returns-clause-inside : goal.returns-clause-inside
returns-clause-inside c =
    let self = c.args.self.now in
    let tile = c.args.tile.now in
    let long : length self.axes ≡ 4 = search rules in
    let wide : length self.from ≡ 4 = search rules in
    let some : 0 < volume_of tile = omega (arith, c.volume.ensures.value, c.if-volume-eq0.false) in
    let near = mapped self (corner_of false (axes_of self) tile) in
    let far = mapped self (corner_of true (axes_of self) tile) in
    let low : c.map_point-low.result ≡ near = c.map_point-low.ensures.value ∙ ap (mapped self) c.corner.ensures in
    let high : c.map_point-high.result ≡ far = c.map_point-high.ensures.value ∙ ap (mapped self) c.corner-2.ensures in
    let is : c.between.result ≡ boxed near far = c.between.ensures ∙ (λ i. boxed (low i) (high i)) in
    λ at h. inside_root self tile long wide c.requires.tile some at (subst (λ r. IsIn r at) is h)

pub returns-then-volume-eq0-clause-inside : goal.returns-then-volume-eq0-clause-inside
returns-then-volume-eq0-clause-inside c =
    λ at h. absurd (empty_has_none c.args.self.now.root at (subst (λ r. IsIn r at) c.empty.ensures h))
