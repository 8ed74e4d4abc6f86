use Rattle.std.proofs.Common.{◌+◌, ◌-◌, take, drop, ap, ◌∙◌, arith}
use Rattle.lg_copy.proofs.Along.{along_block}
use Rattle.lg_copy.proofs.runs.copy_block.Goals as goal

pub returns : goal.returns
returns g c =
    along_block c.args.source.now c.args.target.now c.copy_from_slice.new.self c.args.from c.args.to c.args.count (c.args.to + c.args.count - c.args.to) c.requires.source c.requires.target
    (omega arith) (c.copy_from_slice.ensures.after ∙ ap (λ n. take n (drop c.args.from c.args.source.now)) (omega arith))
