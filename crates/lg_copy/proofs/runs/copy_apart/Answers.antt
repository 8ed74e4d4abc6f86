use Rattle.std.proofs.Common.{◌≡◌, ◌+◌, ◌<◌, length, pos, ◌+ℤ◌, ◌*ℤ◌, to_z, of_z, w64, rules, refl, sym, ap, ◌∙◌, arith}
use Rattle.std.proofs.lemmas.Int.{ints}
use Rattle.lg_copy.proofs.Along.{along_next, along_all, along_same, read_at, write_at}
use Rattle.lg_copy.proofs.runs.copy_apart.Goals as goal

pub offset_bounds-target-to : goal.offset_bounds-target-to
offset_bounds-target-to g c =
    let there : pos (c.args.to + c.loop-k.k) ≡ pos c.args.to +ℤ (pos c.loop-k.k *ℤ pos 1) = omega (arith, ints) in
    let within : c.args.to + c.loop-k.k < length c.args.target.now =
    write_at c.args.from c.args.to c.args.count c.args.stride (pos 1) (length c.args.source.now) (length c.args.target.now) c.requires.fits c.loop-k.k (c.args.to + c.loop-k.k) c.loop-k-test.true there in
    let inside : c.args.to + c.loop-k.k < length c.loop-k.target = omega (arith, within, c.loop-k.invariant.same_length) in
    search rules

pub bounds-target-to : goal.bounds-target-to
bounds-target-to g c =
    let there : pos (c.args.to + c.loop-k.k) ≡ pos c.args.to +ℤ (pos c.loop-k.k *ℤ pos 1) = omega (arith, ints) in
    let within : c.args.to + c.loop-k.k < length c.args.target.now =
    write_at c.args.from c.args.to c.args.count c.args.stride (pos 1) (length c.args.source.now) (length c.args.target.now) c.requires.fits c.loop-k.k (c.args.to + c.loop-k.k) c.loop-k-test.true there in
    omega (arith, within, c.loop-k.invariant.same_length)

pub loop-k-preserved : goal.loop-k-preserved
loop-k-preserved g c =
    let from = c.args.from in
    let to = c.args.to in
    let k = c.loop-k.k in
    let x = c.index-source-further.result in
    let stride = to_z w64 (of_z w64 c.args.stride) in
    let kept : c.args.stride ≡ stride = search rules in
    let there : pos (to + k) ≡ pos to +ℤ (pos k *ℤ pos 1) = omega (arith, ints) in
    let within : to + k < length c.args.target.now =
    write_at from to c.args.count c.args.stride (pos 1) (length c.args.source.now) (length c.args.target.now) c.requires.fits k (to + k) c.loop-k-test.true there in
    let here = c.further.ensures ∙ ap (λ z. pos from +ℤ (pos k *ℤ z)) (sym kept) in
    let inside = read_at from to c.args.count c.args.stride (pos 1) (length c.args.source.now) (length c.args.target.now) c.requires.fits k c.further.result c.loop-k-test.true here in
    along_next c.args.source.now c.args.target.now c.loop-k.target _ from to k c.further.result (to + k) stride (pos 1) x x c.further.ensures there
    inside (omega (arith, within, c.loop-k.invariant.same_length)) c.index-source-further.is refl c.loop-k.invariant

pub returns : goal.returns
returns g c =
    let kept : to_z w64 (of_z w64 c.args.stride) ≡ c.args.stride = search rules in
    along_same c.args.source.now c.args.target.now c.loop-k.target c.args.from c.args.to c.args.count (to_z w64 (of_z w64 c.args.stride)) (pos 1) c.args.stride (pos 1) kept refl
    (along_all c.args.source.now c.args.target.now c.loop-k.target c.args.from c.args.to c.loop-k.k c.args.count (to_z w64 (of_z w64 c.args.stride)) (pos 1) (omega (arith, c.loop-k-test.false, c.loop-k.auto.k-end)) c.loop-k.invariant)
