use Rattle.std.proofs.Common.{◌≡◌, ◌-◌, ◌*◌, min, ltb, sym, ap, subst, ◌∙◌, arith, w64}
use Rattle.std.specs.Prelude.{unsigned_abs}
use Rattle.std.proofs.lemmas.Int.{to_z-of_z}
use Rattle.lg_shape.specs.Views.{sliced_at}
use Rattle.lg_xform.specs.Moves.{steps}
use Rattle.lg_xform.specs.Slices.{IsSliced}
use Rattle.lg_xform.proofs.Slicing.{end_at, end_first, size_is, sliced_more, sliced_one}
use Rattle.lg_xform.proofs.axis.ViewAxis.sliced.Goals as goal
use Rattle.lg_xform.proofs.axis.ViewAxis.sliced.Goals.{then-len-gt1, else-len-gt1}

pub returns : goal.returns
returns c =
    let old = c.args.self.now in
    let start = c.args.start in
    let len = c.args.len in
    let step = c.args.step in
    let same = to_z-of_z w64 step c.ranges.step in
    let first : c.steps-first.result ≡ end_at old.down old.extent start step 0 = c.steps-first.ensures ∙ sym (end_first old.down old.extent start step) in
    let last : c.steps-last.result ≡ end_at old.down old.extent start step (len - 1) =
    c.steps-last.ensures ∙ ap (steps old.down old.extent) (c.coordinate.ensures ∙ ap (λ s. sliced_at start s (len - 1)) same) in
    let ahead : c.min.result * old.stride ≡ min (end_at old.down old.extent start step 0) (end_at old.down old.extent start step (len - 1)) * old.stride =
    ap (λ m. m * old.stride) (c.min.ensures ∙ (λ i. min (first i) (last i))) in
    elim c.if-len-gt1.branch [
      | then-len-gt1 w ↦
          subst (IsSliced start len step old (c.min.result * old.stride)) (sym w.sliced-is)
          (sliced_more start len step old (ltb c.steps-last.result c.steps-first.result) (c.min.result * old.stride) (w.unsigned_abs.result * old.stride)
          w.if-len-gt1.true c.requires.slice (λ i. ltb (last i) (first i)) (ap (λ a. a * old.stride) (w.unsigned_abs.ensures.value ∙ ap unsigned_abs same ∙ size_is step)) ahead)
      | else-len-gt1 w ↦
          (let one : len ≡ 1 = omega (arith, w.if-len-gt1.false, c.if-len-eq0.false) in
          subst (IsSliced start len step old (c.min.result * old.stride)) (sym w.sliced-is)
          (sliced_one start len step old (c.min.result * old.stride) one c.requires.slice ahead))
    ]
