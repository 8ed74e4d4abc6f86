-- Laws of steps, over shapes of any number of axes.
use Rattle.std.specs.Prelude.{ℕ, List}
use Rattle.lg_space.specs.Rectangle.{IsIn}
use Rattle.lg_shape.specs.Shapes.{whole}
use Rattle.lg_shape.specs.Views.{shape_after, index_before, IsStepOf}
use Rattle.lg_shape.specs.declared.step.Step.{Step}

-- an index of the shape after a step comes from one of the shape before it
abbrev pub StepsStayInside : Type 0
StepsStayInside = (step : Step) (shape index : List ℕ) → IsStepOf step shape
    → IsIn (whole (shape_after step shape)) index → IsIn (whole shape) (index_before step index)
