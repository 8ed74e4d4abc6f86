-- The steps of an index cut axes and add axes, and do nothing else.
use Rattle.std.proofs.Common.{◌≡◌, ℕ, suc, ◌+◌, List, [], ◌∷◌, ◌++◌, drop, refl, subst, sym}
use Rattle.lg_shape.specs.Steps.{IsIndexStep, AreIndexSteps}
use Rattle.lg_shape.specs.IndexSteps.{cut_steps, promote_steps}
use Rattle.lg_shape.specs.declared.step.Step.{Step}
use Rattle.lg_shape.specs.declared.index.IndexItem.{IndexItem}
use Rattle.lg_shape.specs.declared.index.IndexItem.TheVariants.{At, Slice as Range, NewAxis, Ellipsis}

both : (first second : List Step) → AreIndexSteps first → AreIndexSteps second → AreIndexSteps (first ++ second)
both [] second a b = b
both (step ∷ first) second a b = (a.0, both first second a.1 b)

cuts : (axis missing : ℕ) (shape : List ℕ) (items : List IndexItem) → AreIndexSteps (cut_steps axis missing shape items)
cuts axis missing shape [] = tt
cuts axis missing shape (NewAxis ∷ items) = cuts axis missing shape items
cuts axis missing shape (Ellipsis ∷ items) = cuts (axis + missing) missing (drop missing shape) items
cuts axis missing [] (At k ∷ items) = tt
cuts axis missing (extent ∷ shape) (At k ∷ items) = (tt, cuts axis missing shape items)
cuts axis missing [] (Range start stop step ∷ items) = tt
cuts axis missing (extent ∷ shape) (Range start stop step ∷ items) = (refl, cuts (suc axis) missing shape items)

promotes : (axis missing : ℕ) (items : List IndexItem) → AreIndexSteps (promote_steps axis missing items)
promotes axis missing [] = tt
promotes axis missing (NewAxis ∷ items) = (refl, promotes (suc axis) missing items)
promotes axis missing (Ellipsis ∷ items) = promotes (axis + missing) missing items
promotes axis missing (At k ∷ items) = promotes axis missing items
promotes axis missing (Range start stop step ∷ items) = promotes (suc axis) missing items

-- all steps of an index
pub plain_steps : (missing : ℕ) (shape : List ℕ) (items : List IndexItem) (steps : List Step)
    → steps ≡ cut_steps 0 missing shape items ++ promote_steps 0 missing items → AreIndexSteps steps
plain_steps missing shape items steps e =
    subst AreIndexSteps (sym e) (both (cut_steps 0 missing shape items) (promote_steps 0 missing items) (cuts 0 missing shape items) (promotes 0 missing items))
