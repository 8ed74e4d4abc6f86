-- A chain without holes has none after a step that makes none.
use Rattle.std.proofs.Common.{◌≡◌, ℕ, List, length, sym, subst, ◌∙◌}
use Rattle.std.proofs.lemmas.List.{length-map}
use Rattle.lg_space.specs.Rectangle.{IsIn}
use Rattle.lg_space.proofs.Places.{place-below}
use Rattle.lg_shape.specs.Shapes.{whole, place_of, size_of}
use Rattle.lg_shape.specs.Views.{shape_after, index_before}
use Rattle.lg_shape.specs.declared.step.Step.{Step}
use Rattle.lg_shape.specs.declared.step.Step.TheVariants.{Promote, Project, Slice, Transpose, Delinearize}
use Rattle.lg_xform.specs.declared.chain.Chain.{Chain}
use Rattle.lg_xform.specs.Chains.{root_of, axes_of, shape_of, inner_of, mapped, layout_of, inner_after, IsChainStep, IsStepped}
use Rattle.lg_xform.specs.Footprints.{HasNoHoles, IsDense, IsDenseStep}
use Rattle.lg_xform.proofs.Edits.{inner_in, extent_in}
use Rattle.lg_xform.proofs.Splits.{whole_leads}
use Rattle.lg_xform.proofs.Holes.{promote_full, project_full, slice_full, transpose_full, delinearize_full}

same_inner : (c : Chain) → length (inner_of c) ≡ length (shape_of c)
same_inner c = length-map (axes_of c) inner_in ∙ sym (length-map (axes_of c) extent_in)

full_after : (step : Step) (old : Chain) (n : List ℕ → List ℕ) → length old.from ≡ 4 → IsChainStep step (root_of old) (layout_of old) (inner_of old)
    → ((index : List ℕ) → IsIn (whole (shape_after step (shape_of old))) index → n index ≡ mapped old (index_before step index))
    → IsDense old → IsDenseStep step → HasNoHoles (shape_after step (shape_of old)) (inner_after step (inner_of old)) n
full_after (Promote axis extent) old n wide may same full dense = promote_full (shape_of old) (inner_of old) (mapped old) n axis extent may.step_of (same_inner old) full same
full_after (Project axis at) old n wide may same full dense = project_full (shape_of old) (inner_of old) (mapped old) n axis at may.step_of may.follows full same
full_after (Slice axis start len step) old n wide may same full dense = slice_full (shape_of old) (inner_of old) (mapped old) n axis start len step may.step_of may.follows dense full same
full_after (Transpose axes) old n wide may same full dense = transpose_full (shape_of old) (inner_of old) (mapped old) n axes may.step_of (same_inner old) full same
full_after (Delinearize sizes) old n wide may same full dense =
    delinearize_full sizes (inner_of old) n
    (λ index in'. same index in' ∙ whole_leads old (size_of sizes) wide may.follows may.step_of (place_of sizes index) (place-below (whole sizes) index in'))

pub dense_after : (step : Step) (old new : Chain) → length old.from ≡ 4 → IsChainStep step (root_of old) (layout_of old) (inner_of old) → IsStepped step old new
    → IsDense old → IsDenseStep step → IsDense new
dense_after step old new wide may is full dense =
    let there = full_after step old (mapped new) wide may (λ index in'. is.mapped index (subst (λ s. IsIn (whole s) index) (sym is.shape) in')) full dense in
    subst (λ s. HasNoHoles s (inner_of new) (mapped new)) (sym is.shape) (subst (λ i. HasNoHoles (shape_after step (shape_of old)) i (mapped new)) (sym is.inner) there)
