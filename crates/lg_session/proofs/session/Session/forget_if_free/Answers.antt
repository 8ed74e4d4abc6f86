use Rattle.lg_session.specs.Names.{IsReached}
use Rattle.lg_session.specs.Roots.{contents}
use Rattle.lg_session.proofs.HeldLemmas.{held_kept, kept_unreached}
use Rattle.lg_session.proofs.session.Session.forget_if_free.Goals as goal

pub invariant_of-self-clause-held : goal.invariant_of-self-clause-held
invariant_of-self-clause-held c = λ w view is.
    let session = c.args.self.now in
    let free : IsReached session.names c.args.root → ⊥ = λ r. cc (c.reaches.ensures.1 r) in
    held_kept (contents session.roots) (contents c.forget.new.self) view
    (kept_unreached session.names c.args.root (contents session.roots) (contents c.forget.new.self) free c.forget.ensures.others w view is)
    (session.held w view is)

pub returns-then-not-reaches-clause-kept : goal.returns-then-not-reaches-clause-kept
returns-then-not-reaches-clause-kept c =
    let session = c.args.self.now in
    let free : IsReached session.names c.args.root → ⊥ = λ r. cc (c.reaches.ensures.1 r) in
    kept_unreached session.names c.args.root (contents session.roots) (contents c.forget.new.self) free c.forget.ensures.others
