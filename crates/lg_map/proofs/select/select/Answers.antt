use Rattle.std.proofs.Common.{length, pos, sym, ap, ◌∙◌}
use Rattle.std.specs.Prelude.{if◌then◌else◌}
use Rattle.std.specs.Int.{from_bool}
use Rattle.lg_elem.specs.Operations.{is_zero}
use Rattle.lg_elem.specs.Types.{wrap}
use Rattle.lg_map.specs.Columns.{item_at, listed, number_in}
use Rattle.lg_map.proofs.select.select.Goals as goal

pub returns-in-Items : goal.returns-in-Items
returns-in-Items g c =
    let t = g.T.Elem.DTYPE in
    c.select_by.ensures ∙ ap (λ items. listed (λ place.
    if is_zero (item_at (λ b. pos (from_bool b)) items place) then wrap t (number_in g.T.Elem.number c.args.y.now place)
    else wrap t (number_in g.T.Elem.number c.args.x.now place)) (length c.args.out.now)) c.items.ensures
    ∙ ap (λ values. listed (λ place.
    if is_zero (number_in (λ b. pos (from_bool b)) values place) then wrap t (number_in g.T.Elem.number c.args.y.now place)
    else wrap t (number_in g.T.Elem.number c.args.x.now place)) (length c.args.out.now)) (sym c.in-Items.is)
