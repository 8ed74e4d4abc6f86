-- Several steps in a row.
use Rattle.std.specs.Prelude.{◌≡◌, ℕ, List, [], ◌∷◌, pos}
use Rattle.lg_shape.specs.Stored.{IsShape}
use Rattle.lg_shape.specs.Views.{IsStepOf, shape_after}
use Rattle.lg_shape.specs.declared.step.Step.{Step}
use Rattle.lg_shape.specs.declared.step.Step.TheVariants.{Promote, Project, Slice, Transpose, Delinearize}

-- each step may be taken where it is taken, and leaves a shape that there is in a program
abbrev pub AreStepsOf : List Step → List ℕ → Type 0
AreStepsOf [] shape = Unit {0}
AreStepsOf (step ∷ steps) shape =
    IsStepOf step shape × IsShape (shape_after step shape)
    × AreStepsOf steps (shape_after step shape)

-- a step that an index takes: it takes an axis away, keeps a run of its coordinates, or adds an
-- axis of extent 1
abbrev pub IsIndexStep : Step → Type 0
IsIndexStep (Promote axis extent) = extent ≡ 1
IsIndexStep (Project axis index) = Unit {0}
IsIndexStep (Slice axis start len step) = step ≡ pos 1
IsIndexStep (Transpose axes) = ⊥
IsIndexStep (Delinearize sizes) = ⊥

-- each of the steps is one that an index takes
abbrev pub AreIndexSteps : List Step → Type 0
AreIndexSteps [] = Unit {0}
AreIndexSteps (step ∷ steps) = IsIndexStep step × AreIndexSteps steps
