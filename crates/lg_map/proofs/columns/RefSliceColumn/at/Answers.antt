use Rattle.std.proofs.Common.{ap, ◌∙◌}
use Rattle.lg_elem.specs.Types.{wrap}
use Rattle.lg_map.proofs.ColumnLemmas.{item_read, wrapped_same}
use Rattle.lg_map.proofs.columns.RefSliceColumn.at.Goals as goal

pub returns-clause-value : goal.returns-clause-value
returns-clause-value g c = item_read g.T.Elem.number c.args.self.now c.args.place c.index-self-place.result c.requires c.index-self-place.is

pub returns-clause-wrapped : goal.returns-clause-wrapped
returns-clause-wrapped g c =
    let is = item_read g.T.Elem.number c.args.self.now c.args.place c.index-self-place.result c.requires c.index-self-place.is in
    wrapped_same g.T.Elem.DTYPE (g.T.Elem.number c.index-self-place.result) c.value-number.result c.value-number.ensures.fits c.value-number.ensures.value ∙ ap (wrap g.T.Elem.DTYPE) is
