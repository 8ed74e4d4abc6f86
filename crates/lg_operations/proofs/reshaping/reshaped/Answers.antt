use Rattle.std.proofs.Common.{◌≡◌, ◌/◌, true, map, rules, sym, ap, ◌∙◌}
use Rattle.std.specs.Prelude.{unsigned_abs}
use mir.Val.{to_z, of_z}
use mir.Syntax.{w128}
use Rattle.lg_meaning.specs.Creation.{shaped}
use Rattle.lg_operations.specs.Reshaping.{filled}
use Rattle.lg_operations.proofs.Reshapings.{left_is, shaped_filled, size_made}
use Rattle.lg_operations.proofs.reshaping.reshaped.Goals as goal

pub returns-clause-rule : goal.returns-clause-rule
returns-clause-rule c =
    let xs = c.args.written.now in
    let test : c.is_reshape.result ≡ true = search rules in
    let kept : to_z w128 (of_z w128 c.left_over.result) ≡ c.left_over.result = search rules in
    c.shaped.ensures.rule ∙ ap (shaped c.args.t) (c.filled_in-extents.ensures ∙ ap (λ x. map (filled (unsigned_abs x)) xs) (kept ∙ c.left_over.ensures))
    ∙ shaped_filled c.args.t c.args.count (c.args.count / c.known_size.result) xs (sym c.is_reshape.ensures ∙ test)
    (left_is c.args.count c.known_size.result xs c.requires c.known_size.ensures)

pub returns-clause-size : goal.returns-clause-size
returns-clause-size c =
    let test : c.is_reshape.result ≡ true = search rules in
    size_made c.args.t c.args.count c.args.written.now c.shaped.result (sym c.is_reshape.ensures ∙ test) (returns-clause-rule c)
