use Rattle.std.proofs.Common.{ℕ, List, sym, subst}
use Rattle.lg_operations.specs.Operations.{operand_static, operand_value}
use Rattle.lg_operations.specs.Lending.{Lends, IsNumberOf, spread_at}
use Rattle.lg_operations.proofs.lending.lend.Goals as goal

pub returns-in-Array-clause-lends : goal.returns-in-Array-clause-lends
returns-in-Array-clause-lends c = subst (λ a. Lends (operand_value a) c.args.shape.now c.lend_array.result) (sym c.in-Array.is) (c.lend_array.ensures.lends c.in-Array.fault)

pub returns-in-Array-clause-fits : goal.returns-in-Array-clause-fits
returns-in-Array-clause-fits c =
    subst (λ a. (index : List ℕ) → IsNumberOf (operand_static a) (spread_at (operand_value a) index)) (sym c.in-Array.is) (c.lend_array.ensures.fits c.in-Array.fault)
