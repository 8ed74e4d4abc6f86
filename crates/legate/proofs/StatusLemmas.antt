-- What follows for the statuses where the bytes are refused, and where the run ends with a fault.
use Rattle.std.proofs.Common.{◌≡◌, ◌≢◌, ◌≤◌, ◌↔◌, inl, inr, ℕ, List, [], Option, None, Some, IfSome, length, refl, sym, ap, subst, ◌∙◌, arith}
use Rattle.lg_tree.specs.Tree.{LineTree}
use Rattle.lg_grammar.specs.Script.{Spells}
use Rattle.lg_meaning.specs.Run.{fault_at}
use Rattle.lg_meaning.specs.declared.fault.FaultKind.{FaultKind}
use Rattle.lg_session.specs.Built.{first_unbuilt}
use Rattle.legate.specs.Running.{Ends, IsStopped}
use Rattle.legate.specs.declared.running.RunStop.{RunStop}
use Rattle.legate.specs.declared.running.RunStop.TheVariants.{Fault}
use Rattle.legate.specs.Statuses.{USAGE, SYNTAX, FAULT, TOO_LONG, READ_FAULT, WRITE_FAULT, NO_MEMORY}
use Rattle.legate.specs.Top.{IsRefusedAt, IsRefused, Finishes, HasFault}

-- bytes that are refused at a line are refused
refused : (bytes : List ℕ) (line : ℕ) → IsRefusedAt bytes line → IsRefused bytes
refused bytes line (inl h) = λ script spelled built. h.0 script spelled
refused bytes line (inr u) = λ script spelled built. some_line (sym u.unbuilt ∙ ap first_unbuilt (sym (u.only script spelled)) ∙ built)
  where
    some_line : Some line ≡ None → ⊥
    some_line e = cc

-- the answer is then syntax and no other
pub syntax_holds : (left : Option (List ℕ)) (line : ℕ) → IfSome left (λ bytes. IsRefusedAt bytes line)
    → IfSome left (λ bytes. 3 ≢ NO_MEMORY → ((3 ≡ SYNTAX) ↔ ((3 ≢ USAGE) × (3 ≢ READ_FAULT) × (3 ≢ TOO_LONG) × IsRefused bytes)))
syntax_holds None line h = tt
syntax_holds (Some bytes) line h = λ _. (λ _. (λ e. absurd (omega arith), λ e. absurd (omega arith), λ e. absurd (omega arith), refused bytes line h), λ _. refl)

-- no script that is built is spelled, so nothing is claimed of one
pub none_completes : (left : Option (List ℕ)) (line most : ℕ) (Ends : List LineTree → Type 0) (IsAsked Read Write Memory : Type 0)
    → IfSome left (λ bytes. IsRefusedAt bytes line)
    → IfSome left (λ bytes. (script : List LineTree) → Spells bytes script → first_unbuilt script ≡ None → IsAsked → length bytes ≤ most → Read → Write → Memory → Ends script)
none_completes None line most Ends IsAsked Read Write Memory h = tt
none_completes (Some bytes) line most Ends IsAsked Read Write Memory h = λ script spelled built _ _ _ _ _. absurd (refused bytes line h script spelled built)

-- ---- the run stopped with a fault

module _ (script : List LineTree) (stop : RunStop) (line : ℕ) (kind : FaultKind) (old new : Option (List ℕ)) (is : stop ≡ Fault line kind) (stopped : IsStopped stop script old new) where
  ends : Ends script (fault_at line kind) old new
  ends = subst (λ s. IsStopped s script old new) is stopped

  -- the fault is told with its line, and all before it was printed
  pub fault_finishes : (left rest : Option (List ℕ)) → IfSome left (λ bytes. Spells bytes script)
      → IfSome left (λ bytes. (other : List LineTree) → Spells bytes other → other ≡ script)
      → IfSome left (λ bytes. rest ≡ Some [])
      → IfSome left (λ bytes. (k : FaultKind) × ((Some kind ≡ Some k) × Finishes bytes (fault_at line k) rest old new))
  fault_finishes None rest spelled only all = tt
  fault_finishes (Some bytes) rest spelled only all =
      (kind, (refl, record { script = script; spelled = spelled; only = only; all_read = all; ends = ends }))

  -- the answer is then a fault and no other
  pub fault_holds : (left : Option (List ℕ)) (IsAsked : Type 0) → IsAsked → IfSome left (λ bytes. Spells bytes script)
      → IfSome left (λ bytes. 4 ≢ NO_MEMORY → ((4 ≡ FAULT) ↔ (IsAsked × (4 ≢ READ_FAULT) × (4 ≢ TOO_LONG) × (4 ≢ SYNTAX) × (4 ≢ WRITE_FAULT) × HasFault bytes)))
  fault_holds None IsAsked asked spelled = tt
  fault_holds (Some bytes) IsAsked asked spelled = λ _. (
    λ _. (
      asked,
      λ e. absurd (omega arith),
      λ e. absurd (omega arith),
      λ e. absurd (omega arith),
      λ e. absurd (omega arith),
      record { script = script; spelled = spelled; line = line; kind = kind; ended = ends.ended },
    ),
    λ _. refl,
  )
