use Rattle.std.proofs.Common.{◌≡◌, ◌<◌, arith, drop, length}
use Rattle.lg_outside.proofs.Pieces.{none_left, piece_and_rest}
use Rattle.lg_outside.proofs.memory.MemorySourceSource.next.Goals as goal

pub returns-clause-bytes : goal.returns-clause-bytes
returns-clause-bytes c =
    let bytes = c.args.self.now.bytes.items in
    let taken = c.args.self.now.taken in
    let left : c.left.result.now ≡ drop taken bytes = c.left.ensures in
    let copy = c.copy_front-count in
    let amount = (rw left at copy.ensures.count) in (
      piece_and_rest bytes _ taken copy.result (rw left at copy.ensures.copied),
      λ (none : copy.result ≡ 0) (room : 0 < length copy.new.to).
          none_left bytes taken copy.result c.args.self.now.piece (length c.args.buf.now) amount c.args.self.now.gives (omega arith) none,
    )
