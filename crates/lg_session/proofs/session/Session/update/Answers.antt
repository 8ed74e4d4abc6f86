use Rattle.std.proofs.Common.{◌≡◌, Some, rules}
use Rattle.lg_tree.specs.View.{tree_of}
use Rattle.lg_session.specs.Names.{bound_at}
use Rattle.lg_session.specs.declared.names.Bound.TheVariants.{Array}
use Rattle.lg_session.proofs.WriteSteps.{no_scalar, update_array}
use Rattle.lg_session.proofs.session.Session.update.Goals as goal

pub returns-in-Writable : goal.returns-in-Writable
returns-in-Writable c =
    let old = c.args.self.now in
    let view = c.in-Some-Array.view in
    let bound : bound_at old.names c.args.word.now ≡ Some (Array view) = search rules in
    record {
      outcome = λ state stands.
          update_array state old c.update_view.new.self c.args.word.now c.args.op (tree_of c.args.value.now) c.update_view.result stands view bound (no_scalar view.right c.in-Writable.is)
          (λ target shows. c.update_view.ensures.outcome state target stands shows);
      tidy = c.update_view.ensures.tidy;
      pieces = c.update_view.ensures.pieces;
      spent = c.update_view.ensures.spent;
    }
