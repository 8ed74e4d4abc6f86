-- The roots that views are of. This project's own.
use Rattle.std.specs.Prelude.{ℕ, List, map}
use Rattle.lg_store.specs.declared.view.View.{View}

-- the number of each view's root
abbrev pub roots_of : List View → List ℕ
roots_of views = map (λ (view : View). view.root) views
