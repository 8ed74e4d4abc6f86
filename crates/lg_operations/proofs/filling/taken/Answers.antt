use Rattle.std.proofs.Common.{◌≡◌, ◌++◌, ◌≤◌, replicate, map, sym, ap, subst, ◌∙◌, true}
use Rattle.lg_elem.specs.Types.{wrap}
use Rattle.lg_space.specs.Rectangle.{volume_of}
use Rattle.lg_space.specs.Stored.{MAX_VOLUME}
use Rattle.lg_shape.specs.Shapes.{size_of}
use Rattle.lg_tile.proofs.NumberLemmas.{numbers_full}
use Rattle.lg_meaning.specs.Assignments.{surplus, fills}
use Rattle.lg_meaning.specs.Static.{shape_of}
use Rattle.lg_meaning.specs.Value.{spread}
use Rattle.lg_operations.specs.Lending.{SpreadsTo}
use Rattle.lg_operations.specs.Operations.{operand_static, operand_value}
use Rattle.lg_operations.proofs.Fillings.{taking_fills, padded_spreads, size_padded, padded_numbers}
use Rattle.lg_operations.proofs.Lendings.{operand_full}
use Rattle.lg_operations.proofs.filling.taken.Goals as goal

pub cast-requires-clause-small : goal.cast-requires-clause-small
cast-requires-clause-small c =
    let own = shape_of (operand_static c.args.a.now) in
    let is = c.padded-padded.ensures ∙ ap (λ s. replicate (surplus s c.args.shape.now) 1 ++ c.args.shape.now) c.shape_of.ensures in
    let size : size_of c.padded-padded.result ≡ size_of c.args.shape.now = ap size_of is ∙ size_padded (surplus own c.args.shape.now) c.args.shape.now in
    subst (λ n. n ≤ MAX_VOLUME) (sym size) c.requires.small

pub cast-requires-clause-spreads : goal.cast-requires-clause-spreads
cast-requires-clause-spreads c =
    let s = operand_static c.args.a.now in
    let shape = c.args.shape.now in
    let is = c.padded-padded.ensures ∙ ap (λ o. replicate (surplus o shape) 1 ++ shape) c.shape_of.ensures in
    subst (SpreadsTo (shape_of s)) (sym is) (padded_spreads (shape_of s) shape (taking_fills c.args.t shape s (sym c.in_ok-rule_of_taking.ensures)))

pub in_shape-requires-clause-full : goal.in_shape-requires-clause-full
in_shape-requires-clause-full c =
    let own = shape_of (operand_static c.args.a.now) in
    let is = c.padded-padded.ensures ∙ ap (λ s. replicate (surplus s c.args.shape.now) 1 ++ c.args.shape.now) c.shape_of.ensures in
    numbers_full c.in_ok-tile.tile ∙ ap volume_of c.in_ok-tile.ensures.rect ∙ ap size_of is ∙ size_padded (surplus own c.args.shape.now) c.args.shape.now

pub returns : goal.returns
returns c =
    let s = operand_static c.args.a.now in
    let v = operand_value c.args.a.now in
    let t = c.args.t in
    let shape = c.args.shape.now in
    let rule = sym c.in_ok-rule_of_taking.ensures in
    let own = (operand_full c.args.a.now c.requires.ready).0 in
    let fit : fills v.shape shape ≡ true = ap (λ o. fills o shape) own ∙ taking_fills t shape s rule in
    let is = c.padded-padded.ensures ∙ ap (λ o. replicate (surplus o shape) 1 ++ shape) (c.shape_of.ensures ∙ sym own) in (
      rule,
      record {
        dtype = c.in_shape.ensures.dtype ∙ c.in_ok-tile.ensures.dtype;
        rect = c.in_shape.ensures.rect;
        same = c.in_shape.ensures.numbers ∙ c.in_ok-tile.ensures.numbers ∙ ap (λ to. map (wrap t) (spread to v)) is ∙ padded_numbers t shape v fit;
        fault = c.fault.ensures;
      },
    )
