use Rattle.std.proofs.Common.{◌≡◌, drop, map}
use Rattle.lg_meaning.specs.Static.{integers}
use Rattle.lg_session.specs.Values.{value_static}
use Rattle.lg_session.proofs.ExtentLemmas.{behind}
use Rattle.lg_session.proofs.forms.integers.Given as goal

abbrev pub invariant-loop-value : goal.invariant-loop-value
invariant-loop-value l = integers (map value_static l.values) ≡ behind l.numbers.items (integers (map value_static (drop l.value-index l.values)))
