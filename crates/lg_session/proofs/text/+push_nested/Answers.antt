use Rattle.std.proofs.Common.{◌≡◌, ◌-◌, ◌*◌, ◌+◌, ◌++◌, take, drop, length, map, sym, ap, ◌∙◌, rules}
use Rattle.std.proofs.lemmas.Result.{on_ok_weaker}
use Rattle.lg_shape.specs.Shapes.{size_of}
use Rattle.lg_meaning.specs.Text.{nested, rows}
use Rattle.lg_session.proofs.Printing.{left, row_more, row_last, row_within, row_rest, row_size_is, appended, list_closed}
use Rattle.lg_session.proofs.text.+push_nested.Goals as goal

pub split_at-requires : goal.split_at-requires
split_at-requires g t c =
    let count = c.in-Some.extent.now in
    let row = c.loop-row.row in
    let s = row_size_is c.args.extents.now c.in-Some.inner.now count row (length c.args.items.now) c.row_size-size.result c.in-Some.ensures.cases.0 c.requires c.loop-row-test.true c.row_size-size.ensures in
    row_within count row c.row_size-size.result (length c.loop-row.rest.now) c.loop-row-test.true (c.loop-row.invariant.size ∙ ap (λ n. (count - row) * n) (sym s))

pub push_nested-requires : goal.push_nested-requires
push_nested-requires g t c κs within =
    let s = row_size_is c.args.extents.now c.in-Some.inner.now c.in-Some.extent.now c.loop-row.row (length c.args.items.now) c.row_size-size.result c.in-Some.ensures.cases.0 c.requires c.loop-row-test.true c.row_size-size.ensures in
    (search rules, (λ a h. search rules, c.split_at.ensures.front_len ∙ s))

pub loop-row-preserved : goal.loop-row-preserved
loop-row-preserved g t c =
    let count = c.in-Some.extent.now in
    let row = c.loop-row.row in
    let inner = c.in-Some.inner.now in
    let rest = c.loop-row.rest.now in
    let f = nested g.T.Elem.DTYPE inner in
    let s = row_size_is c.args.extents.now inner count row (length c.args.items.now) c.row_size-size.result c.in-Some.ensures.cases.0 c.requires c.loop-row-test.true c.row_size-size.ensures in
    let front : c.split_at.result.0.now ≡ take (size_of inner) rest = c.split_at.ensures.front ∙ ap (λ n. take n rest) s in
    let back : c.split_at.result.1.now ≡ drop (size_of inner) rest = c.split_at.ensures.back ∙ ap (λ n. drop n rest) s in
    record {
      size = ap length back ∙ row_rest rest count row (size_of inner) c.loop-row-test.true c.loop-row.invariant.size;
      so_far =
          ap (λ l. c.push_nested.new.text.items ++ left (row + 1) (map f (rows (count - (row + 1)) (size_of inner) (map g.T.Elem.number l)))) back
          ∙ row_more f g.T.Elem.number rest count row (size_of inner) c.loop-row.text.items c.push_comma.new.text.items c.push_nested.new.text.items _
          c.loop-row-test.true c.loop-row.invariant.so_far c.in_ok-push_comma.ensures
          (c.in_ok-push_nested.ensures ∙ ap (λ l. c.push_comma.new.text.items ++ f (map g.T.Elem.number l)) front);
    }

pub returns : goal.returns
returns g t c =
    let count = c.in-Some.extent.now in
    let inner = c.in-Some.inner.now in
    let xs = map g.T.Elem.number c.args.items.now in
    let f = nested g.T.Elem.DTYPE inner in
    let all = row_last f (map g.T.Elem.number c.loop-row.rest.now) count c.loop-row.row (size_of inner) c.loop-row.text.items _ c.loop-row-test.false c.loop-row.invariant.so_far in
    on_ok_weaker c.extend_from_slice-2.result
    (λ closed. list_closed g.T.Elem.DTYPE c.args.extents.now inner count xs c.args.text.now.items c.extend_from_slice.new.self.items c.loop-row.text.items c.extend_from_slice-2.new.self.items
    c.in-Some.ensures.cases.0 c.in_ok-extend_from_slice.ensures.items all closed)
    (appended c.extend_from_slice-2.result c.extend_from_slice-2.new.self.items c.loop-row.text.items _ c.extend_from_slice-2.ensures.items)
