use Rattle.std.proofs.Common.{sym, subst, ◌∙◌}
use Rattle.lg_elem.specs.Types.{IsNumber}
use Rattle.lg_tile.specs.Tiles.{dtype_of}
use Rattle.lg_operations.specs.Lending.{SpreadsTo}
use Rattle.lg_operations.proofs.Lendings.{array_root, array_spread}
use Rattle.lg_operations.proofs.lending.lend_array.Goals as goal

pub lend_view-requires-clause-root : goal.lend_view-requires-clause-root
lend_view-requires-clause-root c = array_root c.args.tile.now c.whole.result c.shape_in.result c.requires.whole c.shape_in.ensures c.whole.ensures.root

pub lend_view-requires-clause-spreads : goal.lend_view-requires-clause-spreads
lend_view-requires-clause-spreads c = subst (λ s. SpreadsTo s c.args.shape.now) (sym (c.whole.ensures.shape ∙ c.shape_in.ensures)) c.requires.spreads

pub returns-clause-lends : goal.returns-clause-lends
returns-clause-lends c = λ fault.
    let e = c.whole.ensures in
    let h = c.lend_view.ensures.lends in
    record {
      over = h.over;
      same = λ index inside. h.same index inside
          ∙ array_spread c.args.tile.now fault c.whole.result c.shape_in.result c.requires.whole c.shape_in.ensures e.shape e.layout index;
    }

pub returns-clause-fits : goal.returns-clause-fits
returns-clause-fits c = λ fault index.
    let e = c.whole.ensures in
    subst (IsNumber (dtype_of c.args.tile.now))
    (array_spread c.args.tile.now fault c.whole.result c.shape_in.result c.requires.whole c.shape_in.ensures e.shape e.layout index) (c.lend_view.ensures.fits index)
