-- Which axes are repeated to which. Only private functions speak of it.
use Rattle.std.specs.Prelude.{ℕ, ◌==◌, Bool, true, false, ◌||◌, ◌&&◌, List, [], ◌∷◌}

-- each extent is 1 or the other one, from the last axis on
abbrev pub repeats_axes : List ℕ → List ℕ → Bool
repeats_axes [] to = true
repeats_axes (x ∷ shape) [] = false
repeats_axes (x ∷ shape) (y ∷ to) = (x == 1 || x == y) && repeats_axes shape to
