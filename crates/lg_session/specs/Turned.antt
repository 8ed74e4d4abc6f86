-- What a transpose makes of a view.
use Rattle.std.specs.Prelude.{◌≡◌, ℕ, List, [], length, Option, option_map, Result, Ok, Err, ⊤, ℤ, Vec}
use Rattle.std.specs.declared.alloc.Global.{Global}
use Rattle.lg_shape.specs.Shapes.{size_of}
use Rattle.lg_store.specs.declared.view.View.{View as CodeView}
use Rattle.lg_xform.specs.declared.chain.Chain.{Chain}
use Rattle.lg_xform.specs.Chains.{root_of, shape_of, inner_of, layout_of, IsUnsplit}
use Rattle.lg_meaning.specs.declared.fault.FaultKind.{FaultKind}
use Rattle.lg_meaning.specs.Faults.{from_part, known_or}
use Rattle.lg_meaning.specs.Memory.{Root}
use Rattle.lg_meaning.specs.Static.{Static, as_array, array_result}
use Rattle.lg_meaning.specs.Views.{transpose_axes, transpose_kind, transposed, optional_integers}
use Rattle.lg_operations.specs.Views.{view_of}
use Rattle.lg_session.specs.Parts.{axes_static}
use Rattle.lg_session.specs.Stored.{IsViewOf}
use Rattle.lg_session.specs.Viewed.{Form, IsViewMade}
use Rattle.lg_operations.specs.declared.end.EvaluateEnd.{EvaluateEnd}
use Rattle.lg_operations.specs.declared.end.EvaluateEnd.TheVariants.{Fault, NoMemory}
use Rattle.lg_session.specs.declared.value.Value.{Value}

-- the axes as numbers, or the fault that one of them is none
abbrev pub AreNumbers : Option (Vec Value Global) → Result (Option (Vec ℤ Global)) EvaluateEnd
    → Type 0
AreNumbers axes (Ok numbers) =
    optional_integers (axes_static axes) ≡ Ok (option_map (λ v. v.items) numbers)
AreNumbers axes (Err (Fault kind)) = optional_integers (axes_static axes) ≡ Err kind
AreNumbers axes (Err NoMemory) = ⊤

-- what is known of a value with its axes in the order that is written
abbrev pub turned_static : Static → Option (List ℤ) → Result Static FaultKind
turned_static a xs = from_part (as_array a) (λ kind. array_result (transpose_kind kind xs))

-- so many axes in the order that is written
abbrev pub turned_by : ℕ → Option (List ℤ) → Form
turned_by count xs kind = transposed (known_or [] (transpose_axes count xs))

-- the chain in this order of its axes, which has as many indices
pub record IsTurned (xs : Option (List ℤ)) (old new : Chain) : Type 0 where
  pub order : List ℕ
  pub written : transpose_axes (length (shape_of old)) xs ≡ Ok order
  pub layout : layout_of new ≡ transposed order (layout_of old)
  pub root : root_of new ≡ root_of old
  pub size : size_of (shape_of new) ≡ size_of (shape_of old)
  pub unsplit : IsUnsplit (inner_of old) → IsUnsplit (inner_of new)

-- the view in this order, which is one of the same root
pub record IsViewTurned (xs : Option (List ℤ)) (old new : CodeView) : Type 0 where
  pub made : IsViewMade (array_result (transpose_kind (view_of old).kind xs))
      (turned_by (length (view_of old).kind.shape) xs) old new
  pub root : new.root ≡ old.root
  pub held : (root : Root) → IsViewOf old root → IsViewOf new root
