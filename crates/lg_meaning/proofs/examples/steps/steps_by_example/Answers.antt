use Rattle.std.proofs.Common.{refl}
use Rattle.std.specs.Fmt.{digits}
use Rattle.std.specs.FinMap.{gets}
use Rattle.lg_meaning.proofs.examples.steps.steps_by_example.Goals as goal

pub returns-clause-bound : goal.returns-clause-bound
returns-clause-bound c = simp gets

pub returns-clause-bound_anew : goal.returns-clause-bound_anew
returns-clause-bound_anew c = simp gets

pub returns-clause-printed : goal.returns-clause-printed
unfolding digits
returns-clause-printed c = simp gets

pub returns-clause-faulted : goal.returns-clause-faulted
returns-clause-faulted c = simp gets

pub returns-clause-weak : goal.returns-clause-weak
returns-clause-weak c = simp gets

pub returns-clause-divided : goal.returns-clause-divided
returns-clause-divided c = simp gets

pub returns-clause-zero_kept : goal.returns-clause-zero_kept
returns-clause-zero_kept c = simp gets

pub returns-clause-nothing_printed : goal.returns-clause-nothing_printed
returns-clause-nothing_printed c = simp gets

pub returns-clause-printed_great : goal.returns-clause-printed_great
unfolding digits
returns-clause-printed_great c = refl

pub returns-clause-view_named : goal.returns-clause-view_named
returns-clause-view_named c = simp gets

pub returns-clause-element_bound : goal.returns-clause-element_bound
returns-clause-element_bound c = simp gets

pub returns-clause-new_view : goal.returns-clause-new_view
returns-clause-new_view c = simp gets
