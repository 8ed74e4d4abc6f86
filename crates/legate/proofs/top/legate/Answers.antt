use Rattle.std.proofs.Common.{◌≡◌, refl, rules}
use Rattle.lg_meaning.specs.Run.{run}
use Rattle.legate.specs.Statuses.{DONE}
use Rattle.legate.specs.Top.{EndsAs}
use Rattle.legate.proofs.StatusLemmas.{syntax_holds, none_completes, fault_finishes, fault_holds}
use Rattle.legate.proofs.top.legate.Goals as goal

pub returns-in-Err-Syntax-clause-syntax_exactly : goal.returns-in-Err-Syntax-clause-syntax_exactly
returns-in-Err-Syntax-clause-syntax_exactly g c = rw (c.told-in-Err-Syntax.ensures.exit, c.syntax.ensures)
    (syntax_holds _ c.in-Err-Syntax.line ((rw c.in-Err-Syntax.field-0-is at c.in-Err-Syntax.ensures.syntax) c.in-Err-Syntax.line refl))

pub returns-in-Err-Syntax-clause-completes : goal.returns-in-Err-Syntax-clause-completes
returns-in-Err-Syntax-clause-completes g c =
    none_completes _ c.in-Err-Syntax.line _ (λ script. EndsAs c.told-in-Err-Syntax.result (run script).end) _ _ _ _
    ((rw c.in-Err-Syntax.field-0-is at c.in-Err-Syntax.ensures.syntax) c.in-Err-Syntax.line refl)

pub returns-in-Err-Syntax-clause-completes_check : goal.returns-in-Err-Syntax-clause-completes_check
returns-in-Err-Syntax-clause-completes_check g c =
    none_completes _ c.in-Err-Syntax.line _ (λ script. c.told-in-Err-Syntax.result.status ≡ DONE) _ _ _ _
    ((rw c.in-Err-Syntax.field-0-is at c.in-Err-Syntax.ensures.syntax) c.in-Err-Syntax.line refl)

pub returns-in-Err-Fault-clause-fault : goal.returns-in-Err-Fault-clause-fault
returns-in-Err-Fault-clause-fault g c = λ _. rw (c.told-in-Err-Fault.ensures.exit, c.fault.ensures)
    (fault_finishes _ c.in-Err-Fault.field-0 c.in-Err-Fault.line c.in-Err-Fault.kind _ _ c.in-Err-Fault.field-0-is c.in-Err-Fault.ensures.stopped _ _ c.in-Ok.ensures.script c.in-Ok.ensures.only c.in-Ok.ensures.all_read)

pub returns-in-Err-Fault-clause-fault_exactly : goal.returns-in-Err-Fault-clause-fault_exactly
returns-in-Err-Fault-clause-fault_exactly g c = rw (c.told-in-Err-Fault.ensures.exit, c.fault.ensures)
    (fault_holds _ c.in-Err-Fault.field-0 c.in-Err-Fault.line c.in-Err-Fault.kind _ _ c.in-Err-Fault.field-0-is c.in-Err-Fault.ensures.stopped _ _ (search rules) c.in-Ok.ensures.script)
