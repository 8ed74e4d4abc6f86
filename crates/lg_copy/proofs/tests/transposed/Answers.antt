use Rattle.std.proofs.Common.{◌≡◌, [], ◌∷◌, refl, sym, subst, ◌∙◌, arith, rules}
use Rattle.std.proofs.lemmas.List.Sorted.{IsPermutation-swap}
use Rattle.lg_shape.specs.Stored.{IsShape}
use Rattle.lg_shape.specs.Views.{shape_after, IsStepOf}
use Rattle.lg_shape.specs.declared.step.Step.TheVariants.{Transpose}
use Rattle.lg_xform.specs.Chains.{shape_of}
use Rattle.lg_copy.proofs.tests.transposed.Goals as goal

-- the order of the axes is one exchange
pub apply-requires : goal.apply-requires
apply-requires c =
    let rows = c.args.rows in
    let columns = c.args.columns in
    let shape : shape_of c.whole.result ≡ rows ∷ columns ∷ [] = c.whole.ensures.shape ∙ c.new.ensures in
    let after : IsShape (columns ∷ rows ∷ []) = search rules in
    record {
      step_of = subst (IsStepOf (Transpose (1 ∷ 0 ∷ 9 ∷ 9 ∷ []))) (sym shape) (IsPermutation-swap (0 ∷ 1 ∷ []) (1 ∷ 0 ∷ []) 0 1 (omega arith) (omega arith) refl);
      shape = subst (λ s. IsShape (shape_after (Transpose (1 ∷ 0 ∷ 9 ∷ 9 ∷ [])) s)) (sym shape) after;
      follows = tt;
    }
