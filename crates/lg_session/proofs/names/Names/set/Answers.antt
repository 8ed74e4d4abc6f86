use Rattle.std.proofs.Common.{rules, Vec, ℕ}
use Rattle.std.specs.declared.alloc.Global.{Global}
use Rattle.lg_session.proofs.NameLemmas.{get-updated}
use Rattle.lg_session.proofs.names.Names.set.Goals as goal

pub returns-in-Some-clause-set : goal.returns-in-Some-clause-set
returns-in-Some-clause-set c = λ w.
    let u = (c.get_mut.follows.holds c.args.bound).3 (search rules) in
    get-updated (λ (k : Vec ℕ Global). k.items) c.args.name.now _ _ c.args.bound u.1 u.3 w

pub returns-clause-set : goal.returns-clause-set
returns-clause-set c = λ w.
    let u = rw c.get_mut.follows.holds-at-none at c.in_ok-insert.ensures.updates in
    rw (← c.in_ok-key.ensures.items) (get-updated (λ (k : Vec ℕ Global). k.items) c.in_ok-key.key.items _ _ c.args.bound u.1 u.3 w)
