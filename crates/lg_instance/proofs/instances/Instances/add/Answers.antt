use Rattle.std.proofs.Common.{◌≡◌, Some, rules, ap, ◌∙◌}
use Rattle.std.proofs.lemmas.Result.{IfOk-weaker}
use Rattle.lg_instance.specs.Contents.{as_root, zeros}
use Rattle.lg_instance.specs.Kept.{contents}
use Rattle.lg_instance.proofs.Roots.{whole_of, zeros_of}
use Rattle.lg_instance.proofs.instances.Instances.add.Goals as goal

pub hold-requires : goal.hold-requires
hold-requires c = whole_of c.in_ok-filled.field-0 c.args.shape.now (c.in_ok-filled.ensures.rect ∙ c.whole.ensures)

pub returns-clause-zeros : goal.returns-clause-zeros
returns-clause-zeros c =
    let tile = c.in_ok-filled.field-0 in
    let dtype = c.args.dtype in
    let shape = c.args.shape.now in
    IfOk-weaker c.hold.result (λ root. contents c.hold.new.self root ≡ Some (as_root tile)) (λ root. contents c.hold.new.self root ≡ Some (zeros dtype shape))
    (λ root held. held ∙ ap Some (zeros_of tile dtype shape c.in_ok-filled.ensures.dtype (c.in_ok-filled.ensures.rect ∙ c.whole.ensures) (search rules)))
    c.hold.ensures.held
