use Rattle.std.proofs.Common.{length, []}
use Rattle.lg_copy.proofs.Inward.{fits_swap, goes_swap}
use Rattle.lg_copy.proofs.crossed.copy_crossed.Goals as goal

pub copy_plane-requires-clause-fits : goal.copy_plane-requires-clause-fits
copy_plane-requires-clause-fits g c =
    fits_swap c.args.outer.now c.args.inner.now [] c.args.from c.args.to (length c.args.source.now) (length c.args.target.now) c.requires.fits

pub returns-then-is_denser : goal.returns-then-is_denser
returns-then-is_denser g c =
    goes_swap c.args.source.now c.args.target.now c.copy_plane.new.target c.args.inner.now c.args.outer.now [] c.args.from c.args.to c.copy_plane.ensures
