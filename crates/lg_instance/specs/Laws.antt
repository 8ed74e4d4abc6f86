-- What holds of every root.
use Rattle.std.specs.Prelude.{◌≡◌, ℕ, Some, length}
use Rattle.lg_shape.specs.Shapes.{size_of}
use Rattle.lg_instance.specs.Contents.{Root}
use Rattle.lg_instance.specs.Kept.{contents}
use Rattle.lg_instance.specs.declared.instances.Instances.{Instances}

-- there are as many numbers as the shape has indices
abbrev pub AreFull : Type 0
AreFull = (instances : Instances) (number : ℕ) (root : Root)
    → contents instances number ≡ Some root → length root.numbers ≡ size_of root.shape
