use Rattle.std.proofs.Common.{◌≡◌, [], ◌∷◌, Some, codes, pos}
use Rattle.std.specs.Fmt.{digits}
use Rattle.std.specs.FinMap.{empty, get, gets, insert}
use Rattle.lg_elem.specs.declared.dtype.DType.TheVariants.{Int8}
use Rattle.lg_meaning.specs.Memory.{Names, scalar}
use Rattle.lg_meaning.specs.Memory as bound
use Rattle.lg_meaning.specs.Weak as weak
use Rattle.lg_meaning.proofs.examples.assignments.updates_by_example.Goals as goal

pub returns-clause-overlapping : goal.returns-clause-overlapping
unfolding digits
returns-clause-overlapping c = simp gets

pub returns-clause-whole : goal.returns-clause-whole
unfolding digits
returns-clause-whole c = simp gets

pub returns-clause-of_scalar : goal.returns-clause-of_scalar
unfolding digits
returns-clause-of_scalar c = simp gets

pub returns-clause-no_axes : goal.returns-clause-no_axes
unfolding digits
returns-clause-no_axes c = simp gets

pub returns-clause-element : goal.returns-clause-element
unfolding digits
returns-clause-element c = simp gets

pub returns-clause-wider_type : goal.returns-clause-wider_type
unfolding digits
returns-clause-wider_type c = simp gets

pub returns-clause-unsigned : goal.returns-clause-unsigned
unfolding digits
returns-clause-unsigned c = simp gets

pub returns-clause-truths : goal.returns-clause-truths
returns-clause-truths c = simp gets

pub returns-clause-by_itself : goal.returns-clause-by_itself
returns-clause-by_itself c = simp gets

pub returns-clause-zero_divisor : goal.returns-clause-zero_divisor
returns-clause-zero_divisor c = simp gets

pub returns-clause-power_below : goal.returns-clause-power_below
returns-clause-power_below c = simp gets

abbrev of_weak-names : Names
of_weak-names = insert empty (codes "x") (bound.weak (weak.integer (pos 3)))

of_weak-got : get of_weak-names (codes "x") ≡ Some (bound.weak (weak.integer (pos 3)))
of_weak-got = simp gets

pub returns-clause-of_weak : goal.returns-clause-of_weak
unfolding digits
returns-clause-of_weak c = rw of_weak-got (simp gets)

abbrev scalar_type-names : Names
scalar_type-names = insert empty (codes "s") (bound.array (record {
  root = 0;
  kind = record {
    dtype = Int8;
    shape = [];
    right = scalar;
  };
  places = 0 ∷ [];
}))

scalar_type-got : get scalar_type-names (codes "s") ≡ Some (bound.array (record {
  root = 0;
  kind
      = record { dtype = Int8; shape = []; right = scalar };
  places = 0 ∷ [];
}))
scalar_type-got = simp gets

pub returns-clause-scalar_type : goal.returns-clause-scalar_type
unfolding digits
returns-clause-scalar_type c = rw scalar_type-got (simp gets)
