use Rattle.std.proofs.Common.{append_assoc}
use Rattle.std.proofs.lemmas.Result.{IfOk-equal}
use Rattle.lg_text.proofs.expressions.+text.Goals as goal
use Rattle.lg_text.proofs.Views.{tree-without_start, tree-with_start, tree-Array, tree-BroadcastTo, tree-Copy, tree-Flatten, tree-AsType, tree-Reshape}

pub write_change-returns-in_ok-write_shape-in-BroadcastTo : goal.write_change-returns-in_ok-write_shape-in-BroadcastTo
write_change-returns-in_ok-write_shape-in-BroadcastTo t c =
    IfOk-equal c.put-in-BroadcastTo.result _ _ _ c.put-in-BroadcastTo.ensures (rw (c.in_ok-write_shape-in-BroadcastTo.ensures, c.in_ok-put-in-BroadcastTo.ensures, c.in_ok-write_first-in-BroadcastTo.ensures, c.get-in-BroadcastTo.ensures, c.in-BroadcastTo.is, tree-BroadcastTo) (simp append_assoc))

pub write_change-returns-in_ok-write_operand-in-Copy : goal.write_change-returns-in_ok-write_operand-in-Copy
write_change-returns-in_ok-write_operand-in-Copy t c =
    IfOk-equal c.put-in-Copy.result _ _ _ c.put-in-Copy.ensures (rw (c.in_ok-write_operand-in-Copy.ensures, c.get-in-Copy.ensures, c.in-Copy.is, tree-Copy) (simp append_assoc))

pub write_change-returns-in_ok-write_operand-in-Flatten : goal.write_change-returns-in_ok-write_operand-in-Flatten
write_change-returns-in_ok-write_operand-in-Flatten t c =
    IfOk-equal c.put-in-Flatten.result _ _ _ c.put-in-Flatten.ensures (rw (c.in_ok-write_operand-in-Flatten.ensures, c.get-in-Flatten.ensures, c.in-Flatten.is, tree-Flatten) (simp append_assoc))

pub write_change-returns-in_ok-put-in-AsType-2 : goal.write_change-returns-in_ok-put-in-AsType-2
write_change-returns-in_ok-put-in-AsType-2 t c =
    IfOk-equal c.put-in-AsType-3.result _ _ _ c.put-in-AsType-3.ensures (rw (c.in_ok-put-in-AsType-2.ensures, c.in_ok-put-in-AsType.ensures, c.in_ok-write_operand-in-AsType.ensures, c.get-in-AsType.ensures, c.dtype_text.ensures, c.in-AsType.is, tree-AsType) (simp append_assoc))

pub write_change-returns-in_ok-write_shape-in-Reshape : goal.write_change-returns-in_ok-write_shape-in-Reshape
write_change-returns-in_ok-write_shape-in-Reshape t c =
    IfOk-equal c.put-in-Reshape-2.result _ _ _ c.put-in-Reshape-2.ensures (rw (c.in_ok-write_shape-in-Reshape.ensures, c.in_ok-put-in-Reshape.ensures, c.in_ok-write_operand-in-Reshape.ensures, c.get-in-Reshape.ensures, c.in-Reshape.is, tree-Reshape) (simp append_assoc))

pub write_maker-returns-in_ok-write_first-in-None : goal.write_maker-returns-in_ok-write_first-in-None
write_maker-returns-in_ok-write_first-in-None t c =
    let e = tree-without_start _ _ _ _ c.in-Arange.is c.in-None.is in
    IfOk-equal c.put_end-in-None.result _ _ _ c.put_end-in-None.ensures (rw (c.in_ok-write_first-in-None.ensures, c.get-in-None.ensures, e) (simp append_assoc))

pub write_maker-returns-in_ok-write_next-in-Some : goal.write_maker-returns-in_ok-write_next-in-Some
write_maker-returns-in_ok-write_next-in-Some t c =
    let e = tree-with_start _ _ _ _ _ c.in-Arange.is c.in-Some.is in
    IfOk-equal c.put_end-in-Some.result _ _ _ c.put_end-in-Some.ensures (rw (c.in_ok-write_next-in-Some.ensures, c.in_ok-write_first-in-Some.ensures, c.get-in-Some.ensures, c.get-in-Some-2.ensures, e) (simp append_assoc))

pub write_maker-returns-in_ok-write_list-in-Array : goal.write_maker-returns-in_ok-write_list-in-Array
write_maker-returns-in_ok-write_list-in-Array t c =
    IfOk-equal c.put_end-in-Array.result _ _ _ c.put_end-in-Array.ensures (rw (c.in_ok-write_list-in-Array.ensures, c.in_ok-put-in-Array.ensures, c.in-Array.is, tree-Array) (simp append_assoc))
