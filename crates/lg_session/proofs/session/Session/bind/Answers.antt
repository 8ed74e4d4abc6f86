use Rattle.std.proofs.Common.{sym, subst, ◌∙◌}
use Rattle.lg_session.specs.declared.names.Names.{Names}
use Rattle.lg_session.specs.Stored.{IsTidyAt}
use Rattle.lg_session.specs.Roots.{contents}
use Rattle.lg_session.proofs.HeldLemmas.{held_set, ranged_set, tidy_same, tidy_freed, tidy_set}
use Rattle.lg_session.proofs.session.Session.bind.Goals as goal

pub invariant_of-self-clause-held : goal.invariant_of-self-clause-held
invariant_of-self-clause-held c =
    held_set c.set.result (contents c.args.self.now.roots) c.args.self.now.names c.set.new.self c.args.word.now c.args.bound c.set.ensures.set c.set.ensures.same c.requires c.args.self.now.held

pub invariant_of-self-clause-ranged : goal.invariant_of-self-clause-ranged
invariant_of-self-clause-ranged c =
    ranged_set c.set.result (contents c.args.self.now.roots) c.args.self.now.names c.set.new.self c.args.word.now c.args.bound c.set.ensures.set c.set.ensures.same c.requires c.args.self.now.ranged

pub returns-in_err-root-clause-tidy : goal.returns-in_err-root-clause-tidy
returns-in_err-root-clause-tidy c = tidy_same (contents c.args.self.now.roots) c.args.self.now.names c.set.new.self c.in_err-root.ensures.same

pub returns-in-Some-clause-tidy : goal.returns-in-Some-clause-tidy
returns-in-Some-clause-tidy c =
    let e = c.forget_if_free.ensures in
    let A = contents c.args.self.now.roots in
    let C = contents c.forget_if_free.new.self.roots in
    let now : IsTidyAt C c.set.new.self c.in-Some.root = subst (λ (n : Names). IsTidyAt C n c.in-Some.root) e.names e.tidy in
    λ root tidy. subst (λ (n : Names). IsTidyAt C n root) (sym e.names)
    (tidy_freed A C c.args.self.now.names c.set.new.self c.args.word.now c.args.bound c.in_ok-root.ensures.set c.in-Some.root
    (sym c.in-Some.is ∙ c.in_ok-root.ensures.old) now e.others root tidy)

pub returns-in_default-clause-tidy : goal.returns-in_default-clause-tidy
returns-in_default-clause-tidy c =
    let A = contents c.args.self.now.roots in
    tidy_set A A c.args.self.now.names c.set.new.self c.args.word.now c.args.bound c.in_ok-root.ensures.set (sym c.in_default.is ∙ c.in_ok-root.ensures.old)
