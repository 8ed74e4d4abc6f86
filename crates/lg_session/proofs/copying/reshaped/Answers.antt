use Rattle.std.proofs.Common.{◌≡◌, map, Ok, sym, ap, subst, ◌∙◌}
use Rattle.lg_meaning.specs.Copies.{reshape_static, same_numbers}
use Rattle.lg_meaning.specs.Faults.{from_part}
use Rattle.lg_meaning.specs.Static.{as_array}
use Rattle.lg_operations.specs.Operations.{IsArrayOf}
use Rattle.lg_operations.specs.Reshaping.{reshape_kind}
use Rattle.lg_session.specs.Roots.{contents}
use Rattle.lg_session.specs.Values.{value_static, value_in}
use Rattle.lg_session.proofs.Copyings.{array_anew, reshaped_type}
use Rattle.lg_session.proofs.copying.reshaped.Goals as goal

pub returns-clause-computed : goal.returns-clause-computed
returns-clause-computed c =
    let roots = contents c.args.session.now.roots in
    let a = c.args.a in
    let xs = c.deref.result.now in
    let form : from_part (as_array (value_static a)) (reshape_kind xs) ≡ reshape_static (value_static a) (map value_static c.args.extents.now) =
    sym (ap (λ r. from_part r (λ ys. from_part (as_array (value_static a)) (reshape_kind ys))) (c.in_ok-written.ensures ∙ ap Ok (sym c.deref.ensures.value))) in
    subst (λ s. IsArrayOf s (same_numbers (value_in roots a)) c.in_ok-anew.field-0) form
    (array_anew roots a (reshape_kind xs) c.in_ok-shape.field-0-0 c.in_ok-shape.shape
    (c.in_ok-shape.ensures.rule ∙ ap (λ s. from_part (as_array s) (reshape_kind xs)) c.read.ensures.kind)
    (λ kind e. reshaped_type xs kind c.in_ok-shape.field-0-0 c.in_ok-shape.shape e) c.in_ok-anew.field-0 c.in_ok-anew.ensures)

pub returns-clause-usable : goal.returns-clause-usable
returns-clause-usable c = (returns-clause-computed c).whole
