-- The steps of an index may be taken from every view of which no axis was split.
use Rattle.std.proofs.Common.{◌≡◌, ◌∙◌, inl, ℕ, suc, Bool, false, List, [], ◌∷◌, length, take, drop, insert, remove, refl}
use Rattle.std.specs.Prelude.{All}
use Rattle.std.proofs.lemmas.List.{length-map}
use Rattle.std.proofs.lemmas.List.Elements.{All-append, All-cons, All-drop, All-nil, All-take}
use Rattle.lg_space.proofs.Places.{volume_counts}
use Rattle.lg_shape.specs.Shapes.{places, place_of, size_of, whole}
use Rattle.lg_shape.specs.Steps.{AreStepsOf, IsIndexStep, AreIndexSteps}
use Rattle.lg_shape.specs.Views.{Layout, stepped}
use Rattle.lg_shape.specs.declared.step.Step.{Step}
use Rattle.lg_shape.specs.declared.step.Step.TheVariants.{Promote, Project, Slice, Transpose, Delinearize}
use Rattle.lg_xform.specs.declared.chain.Chain.{Chain}
use Rattle.lg_xform.specs.Chains.{root_of, shape_of, mapped, layout_of, IsUnsplit, inner_after, all_inner, MayFollow, AreChainSteps}
use Rattle.lg_xform.specs.Footprints.{IsDenseStep}

-- a step of an index may follow
follows : (step : Step) (root : List ℕ) (layout : Layout) (inner : List Bool) → IsIndexStep step → IsUnsplit inner → MayFollow step root layout inner
follows (Promote axis extent) root layout inner plain unsplit = tt
follows (Project axis index) root layout inner plain unsplit = unsplit
follows (Slice axis start len step) root layout inner plain unsplit = unsplit
follows (Transpose axes) root layout inner plain unsplit = absurd plain
follows (Delinearize sizes) root layout inner plain unsplit = absurd plain

inserted : (inner : List Bool) (axis : ℕ) → IsUnsplit inner → IsUnsplit (insert inner axis false)
inserted inner axis h =
    let P : Bool → Type 0 = λ b. b ≡ false in
    All-append P (take axis inner) (false ∷ drop axis inner) (All-take P axis inner h) (All-cons P false (drop axis inner) refl (All-drop P axis inner h))

removed : (inner : List Bool) (axis : ℕ) → IsUnsplit inner → IsUnsplit (remove inner axis)
removed inner axis h =
    let P : Bool → Type 0 = λ b. b ≡ false in
    All-append P (take axis inner) (drop (suc axis) inner) (All-take P axis inner h) (All-drop P (suc axis) inner h)

-- and splits nothing
stays : (step : Step) (inner : List Bool) → IsIndexStep step → IsUnsplit inner → IsUnsplit (inner_after step inner)
stays (Promote axis extent) inner plain unsplit = inserted inner axis unsplit
stays (Project axis index) inner plain unsplit = removed inner axis unsplit
stays (Slice axis start len step) inner plain unsplit = unsplit
stays (Transpose axes) inner plain unsplit = absurd plain
stays (Delinearize sizes) inner plain unsplit = absurd plain

pub may_be_taken : (steps : List Step) (root : List ℕ) (layout : Layout) (inner : List Bool) → AreStepsOf steps layout.shape → AreIndexSteps steps
    → IsUnsplit inner → AreChainSteps steps root layout inner
may_be_taken [] root layout inner steps_of plain unsplit = tt
may_be_taken (step ∷ steps) root layout inner steps_of plain unsplit = (
  record { step_of = steps_of.0; shape = steps_of.1; follows = follows step root layout inner plain.0 unsplit },
  may_be_taken steps root (stepped step layout) (inner_after step inner) steps_of.2 plain.1 (stays step inner plain.0 unsplit),
)

pub still_unsplit : (steps : List Step) (inner : List Bool) → AreIndexSteps steps → IsUnsplit inner → IsUnsplit (all_inner steps inner)
still_unsplit [] inner plain unsplit = unsplit
still_unsplit (step ∷ steps) inner plain unsplit = still_unsplit steps (inner_after step inner) plain.1 (stays step inner plain.0 unsplit)

-- a step of an index makes no hole
no_hole : (step : Step) → IsIndexStep step → IsDenseStep step
no_hole (Promote axis extent) plain = tt
no_hole (Project axis index) plain = tt
no_hole (Slice axis start len step) plain = inl plain
no_hole (Transpose axes) plain = absurd plain
no_hole (Delinearize sizes) plain = absurd plain

pub no_holes : (steps : List Step) → AreIndexSteps steps → All IsDenseStep steps
no_holes [] plain = All-nil IsDenseStep
no_holes (step ∷ steps) plain = All-cons IsDenseStep step steps (no_hole step plain.0) (no_holes steps plain.1)

-- a view has a place for each of its indices
pub all_places : (c : Chain) → length (layout_of c).places ≡ size_of (shape_of c)
all_places c =
    length-map (places (shape_of c)) (λ (index : List ℕ). place_of (root_of c) (mapped c index)) ∙ volume_counts (whole (shape_of c))
