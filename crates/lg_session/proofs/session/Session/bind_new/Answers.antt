use Rattle.std.proofs.Common.{refl, subst, ◌∙◌}
use Rattle.lg_store.specs.declared.view.View.{View}
use Rattle.lg_tile.specs.Tiles.{numbers}
use Rattle.lg_meaning.specs.Memory.{ArrayKind}
use Rattle.lg_meaning.specs.Step.{newly_bound}
use Rattle.lg_session.specs.Names.{environment, IsReached}
use Rattle.lg_session.specs.Roots.{contents, root_of}
use Rattle.lg_session.specs.Stored.{IsWholeOf}
use Rattle.lg_session.specs.Standing.{Represents}
use Rattle.lg_session.proofs.HeldLemmas.{held_added, reached_set, tidy_reached}
use Rattle.lg_session.proofs.StepLemmas.{represents_new}
use Rattle.lg_session.proofs.session.Session.bind_new.Goals as goal

pub invariant_of-self-clause-held : goal.invariant_of-self-clause-held
invariant_of-self-clause-held c =
    held_added c.add.result (contents c.args.self.now.roots) (contents c.add.new.self) c.args.self.now.names c.add.ensures.free c.add.ensures.others c.add.ensures.same c.args.self.now.held

pub returns-in-Ok-clause-stands : goal.returns-in-Ok-clause-stands
returns-in-Ok-clause-stands c = λ state stands.
    let word = c.args.word.now in
    let made = c.whole_view-view.result in
    let view : View = record { root = c.in_ok-root.root; dtype = made.dtype; chain = made.chain; right = made.right } in
    let root = root_of c.args.fresh.tile in
    let w = c.whole_view-view.ensures.whole in
    let whole : IsWholeOf view root = record { of_root = record { dtype = w.of_root.dtype; shape = w.of_root.shape; full = w.of_root.full; small = w.of_root.small; unsplit = w.of_root.unsplit; inside = w.of_root.inside; once = w.of_root.once }; shape = w.shape; places = w.places } in
    let reached = reached_set c.args.self.now.names c.bind.new.self.names word view c.in-Ok.ensures.set in
    let now = c.in-Ok.ensures.kept word view reached ∙ c.in_ok-root.ensures.held in
    subst (λ (k : ArrayKind). Represents (contents c.bind.new.self.roots) (environment c.bind.new.self.names) (newly_bound word k (numbers c.args.fresh.tile) state))
    c.whole_view-view.ensures.kind
    (represents_new (contents c.args.self.now.roots) (contents c.bind.new.self.roots) c.args.self.now.names c.bind.new.self.names state word view root stands c.args.self.now.held
    c.in_ok-root.ensures.free now whole c.in-Ok.ensures.set
    (λ v other is apart. c.in-Ok.ensures.kept v other is ∙ c.in_ok-root.ensures.others other.root apart))

pub returns-in-Ok-clause-tidy : goal.returns-in-Ok-clause-tidy
returns-in-Ok-clause-tidy c =
    let word = c.args.word.now in
    let made = c.whole_view-view.result in
    let view : View = record { root = c.in_ok-root.root; dtype = made.dtype; chain = made.chain; right = made.right } in
    let reached : IsReached c.bind.new.self.names c.in_ok-root.root =
    record { name = word; view = view; bound = reached_set c.args.self.now.names c.bind.new.self.names word view c.in-Ok.ensures.set; of_root = refl } in
    tidy_reached (contents c.args.self.now.roots) (contents c.add.new.self) (contents c.bind.new.self.roots) c.args.self.now.names c.bind.new.self.names c.in_ok-root.root
    c.in_ok-root.ensures.others c.in-Ok.ensures.tidy reached
