use Rattle.std.proofs.Common.{rules, ◌<◌, ◌+◌, Contains, length, sym, subst, arith}
use Rattle.lg_instance.specs.Kept.{contents}
use Rattle.lg_instance.specs.declared.instances.Instances.{Instances}
use Rattle.lg_instance.proofs.Roots.{AreKept, kept_without, kept_with}
use Rattle.lg_instance.proofs.instances.Instances.keep.Goals.{then-not-is_among, else-not-is_among}
use Rattle.lg_instance.proofs.instances.Instances.keep.Goals as goal

pub loop-root-preserved : goal.loop-root-preserved
loop-root-preserved c =
    let roots = c.args.roots.now in
    let old = contents c.args.self.now in
    let now = contents c.loop-root.self in
    let k = c.loop-root.root in
    let count = length c.args.self.now.tiles.items in
    let before : k < count = omega (arith, c.loop-root-test.true, c.loop-root.invariant.all) in
    elim c.if-not-is_among.branch [
      | then-not-is_among w ↦
          (let out : Contains roots k → ⊥ = λ among. search rules in
          record {
            so_far = subst (λ (self : Instances). AreKept roots old (contents self) (k + 1) count) (sym w.self-is)
                (kept_without roots old now k count c.loop-root.invariant.so_far before (contents w.forget.new.self) out w.forget.ensures.gone w.forget.ensures.others);
            all = c.loop-root.invariant.all;
          })
      | else-not-is_among w ↦
          (let among : Contains roots k = search rules in
          record {
            so_far = subst (λ (self : Instances). AreKept roots old (contents self) (k + 1) count) (sym w.self-is)
                (kept_with roots old now k count c.loop-root.invariant.so_far before among);
            all = c.loop-root.invariant.all;
          })
    ]
