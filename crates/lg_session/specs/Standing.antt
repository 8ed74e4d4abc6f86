-- When a session stands for a state of the definition.
use Rattle.std.specs.Prelude.{slice_get}
use Rattle.std.specs.FinMap.{get}
use Rattle.lg_meaning.specs.Memory.{State}
use Rattle.lg_session.specs.Worlds.{Roots, Names, Stands, AreInside}
use Rattle.lg_session.specs.Names.{environment}
use Rattle.lg_session.specs.Roots.{contents}
use Rattle.lg_session.specs.declared.session.Session.{Session}

-- the state as a world
abbrev pub roots_in : State → Roots
roots_in state = slice_get state.memory

abbrev pub names_in : State → Names
names_in state = get state.names

-- a world stands for the state, whose views are of roots that are there
pub record Represents (roots : Roots) (names : Names) (state : State) : Type 0 where
  pub sound : AreInside (roots_in state) (names_in state)
  pub stands : Stands roots (roots_in state) names (names_in state)

abbrev pub StandsFor : Session → State → Type 0
StandsFor session = Represents (contents session.roots) (environment session.names)
