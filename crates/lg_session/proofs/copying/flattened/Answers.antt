use Rattle.std.proofs.Common.{[], ◌∷◌, ap, ◌∙◌}
use Rattle.lg_shape.specs.Shapes.{size_of}
use Rattle.lg_meaning.specs.Copies.{flatten_static}
use Rattle.lg_meaning.specs.Static.{made}
use Rattle.lg_session.specs.Roots.{contents}
use Rattle.lg_session.proofs.Copyings.{array_anew, made_type}
use Rattle.lg_session.proofs.copying.flattened.Goals as goal

pub returns-clause-computed : goal.returns-clause-computed
returns-clause-computed c =
    array_anew (contents c.args.session.now.roots) c.args.a (λ kind. made kind.dtype (size_of kind.shape ∷ [])) c.in_ok-shape.field-0-0 c.in_ok-shape.shape
    (c.in_ok-shape.ensures.rule ∙ ap flatten_static c.read.ensures.kind) (λ kind e. made_type kind.dtype c.in_ok-shape.field-0-0 (size_of kind.shape ∷ []) c.in_ok-shape.shape e)
    c.in_ok-anew.field-0 c.in_ok-anew.ensures

pub returns-clause-usable : goal.returns-clause-usable
returns-clause-usable c = (returns-clause-computed c).whole
