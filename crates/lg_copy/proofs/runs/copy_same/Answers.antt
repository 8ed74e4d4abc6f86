use Rattle.std.proofs.Common.{◌≡◌, ◌+◌, ◌<◌, length, pos, ◌+ℤ◌, ◌*ℤ◌, refl, arith}
use Rattle.std.proofs.lemmas.Int.{ints}
use Rattle.lg_copy.proofs.Along.{along_next, along_all, first_read, write_at}
use Rattle.lg_copy.proofs.runs.copy_same.Goals as goal

pub loop-k-preserved : goal.loop-k-preserved
loop-k-preserved g c =
    let from = c.args.from in
    let to = c.args.to in
    let k = c.loop-k.k in
    let x = c.index-source-from.result in
    let there : pos (to + k) ≡ pos to +ℤ (pos k *ℤ pos 1) = omega (arith, ints) in
    let within : to + k < length c.args.target.now = write_at from to c.args.count (pos 0) (pos 1) (length c.args.source.now) (length c.args.target.now) c.requires.fits k (to + k) c.loop-k-test.true there in
    along_next c.args.source.now c.args.target.now c.loop-k.target _ from to k from (to + k) (pos 0) (pos 1) x x (omega (arith, ints)) there
    (first_read from to c.args.count (pos 0) (pos 1) (length c.args.source.now) (length c.args.target.now) c.requires.fits c.requires.some)
    (omega (arith, within, c.loop-k.invariant.same_length)) c.index-source-from.is refl c.loop-k.invariant

pub returns : goal.returns
returns g c =
    along_all c.args.source.now c.args.target.now c.loop-k.target c.args.from c.args.to c.loop-k.k c.args.count (pos 0) (pos 1) (omega (arith, c.loop-k-test.false, c.loop-k.auto.k-end)) c.loop-k.invariant
