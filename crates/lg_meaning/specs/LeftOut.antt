-- Forms whose meaning is not told yet: `cumsum`, `cumprod`, `argmin`, `argmax`, `load` and `save`.
-- So that the definitions have an answer for each tree they count as a name that is not bound; no
-- promise speaks of a statement with one of them.
use Rattle.lg_meaning.specs.declared.fault.FaultKind.{FaultKind}
use Rattle.lg_meaning.specs.declared.fault.FaultKind.TheVariants.{Name}

abbrev pub left_out : FaultKind
left_out = Name
