use Rattle.std.proofs.Common.{ℕ, List, [], ◌∷◌, length, max, take, ap, ◌∙◌}
use Rattle.lg_xform.proofs.Corners.{empty_taken}
use Rattle.lg_xform.proofs.chain.footprint.empty.Goals as goal

pub returns : goal.returns
returns c =
    c.new.ensures
    ∙ ap (λ n. take {A = ℕ × ℕ} n ((0, 0) ∷ (0, 0) ∷ (0, 0) ∷ (0, 0) ∷ [])) (c.max.ensures ∙ ap (λ (l : List ℕ). max (length l) 1) c.extents-axes.ensures.value)
    ∙ empty_taken c.args.root.now c.extents-axes.ensures.shape.axes
