use Rattle.std.proofs.Common.{◌≡◌, length, take, Ok, option_copied, ap, subst, sym, ◌∙◌}
use Rattle.lg_shape.specs.Shapes.{size_of}
use Rattle.lg_xform.specs.Chains.{shape_of, inner_of, layout_of, IsUnsplit}
use Rattle.lg_meaning.specs.Views.{transpose_axes}
use Rattle.lg_session.proofs.AxesLemmas.{axes_once, turned_shape, turned_size, turned_front, turned_unsplit}
use Rattle.lg_session.proofs.turning.turned.Goals as goal

pub apply-requires : goal.apply-requires
apply-requires c =
    let shape = shape_of c.args.chain.now in
    let axes = c.in_ok-axes.axes in
    let xs = option_copied c.args.axes in
    let count : length c.extents.result.now ≡ length shape = ap length (c.extents.ensures.value ∙ c.shape-shape.ensures.value) in
    let moves = axes_once (length shape) xs (take (length shape) axes) (subst (λ n. transpose_axes n xs ≡ Ok (take n axes)) count c.in_ok-axes.ensures) in
    record { step_of = moves; shape = turned_shape shape (take (length shape) axes) c.shape-shape.ensures.shape moves; follows = tt }

pub returns : goal.returns
returns c =
    let shape = shape_of c.args.chain.now in
    let axes = c.in_ok-axes.axes in
    let xs = option_copied c.args.axes in
    let count : length c.extents.result.now ≡ length shape = ap length (c.extents.ensures.value ∙ c.shape-shape.ensures.value) in
    let written = subst (λ n. transpose_axes n xs ≡ Ok (take n axes)) count c.in_ok-axes.ensures in
    let moves = axes_once (length shape) xs (take (length shape) axes) written in
    let e = c.apply.ensures in
    record {
      order = take (length shape) axes;
      written = written;
      layout = e.layout ∙ sym (turned_front (layout_of c.args.chain.now) axes moves);
      root = e.root;
      size = ap size_of e.shape ∙ turned_size shape (take (length shape) axes) moves;
      unsplit = λ none. subst IsUnsplit (sym e.inner) (turned_unsplit (inner_of c.args.chain.now) (take (length (inner_of c.args.chain.now)) axes) none);
    }
