use Rattle.std.proofs.Common.{codes}
use Rattle.lg_elem.specs.declared.dtype.DType.TheVariants.{Int8}
use Rattle.lg_tree.specs.declared.kinds.Red.TheVariants.{Sum}
use Rattle.lg_tree.specs.declared.kinds.ScanCall.TheVariants.{CumSum}
use Rattle.lg_parse.specs.Expressions.{uncompared, tightest, single, unsigned, alone, bare, a_number, a_name, a_call, a_full, some_ones, a_range_to, an_array, an_abs, a_minimum, a_maximum, a_reduction, a_scan, a_take, a_transpose, a_broadcast, no_axis, one_extent, a_tuple, last_member, a_list, last_entry, one_entry}
use Rattle.lg_parse.specs.Statements.{a_bind, a_print}
use Rattle.lg_parse.specs.Types.{no_type, plain_type, named_type}
use Rattle.lg_parse.proofs.examples.other_calls_by_example.Goals as goal

pub returns-clause-plain_full : goal.returns-clause-plain_full
returns-clause-plain_full c = a_bind (codes "x") (uncompared (single (single (single (single (single (single (tightest (unsigned (alone (bare (a_call (a_full (one_extent (uncompared (single (single (single (single (single (single (tightest (unsigned (alone (bare (a_number 3))))))))))))) (uncompared (single (single (single (single (single (single (tightest (unsigned (alone (bare (a_number 0)))))))))))) no_type)))))))))))))

pub returns-clause-ones : goal.returns-clause-ones
returns-clause-ones c = a_bind (codes "x") (uncompared (single (single (single (single (single (single (tightest (unsigned (alone (bare (a_call (some_ones (a_tuple (uncompared (single (single (single (single (single (single (tightest (unsigned (alone (bare (a_number 2)))))))))))) (last_member (uncompared (single (single (single (single (single (single (tightest (unsigned (alone (bare (a_number 3)))))))))))))) (plain_type Int8))))))))))))))

pub returns-clause-arange_to_type : goal.returns-clause-arange_to_type
returns-clause-arange_to_type c = a_bind (codes "x") (uncompared (single (single (single (single (single (single (tightest (unsigned (alone (bare (a_call (a_range_to (uncompared (single (single (single (single (single (single (tightest (unsigned (alone (bare (a_number 3)))))))))))) (named_type Int8))))))))))))))

pub returns-clause-array_type : goal.returns-clause-array_type
returns-clause-array_type c = a_bind (codes "x") (uncompared (single (single (single (single (single (single (tightest (unsigned (alone (bare (a_call (an_array (a_list (last_entry (one_entry (uncompared (single (single (single (single (single (single (tightest (unsigned (alone (bare (a_number 1))))))))))))))) (plain_type Int8))))))))))))))

pub returns-clause-absolute : goal.returns-clause-absolute
returns-clause-absolute c = a_print (uncompared (single (single (single (single (single (single (tightest (unsigned (alone (bare (a_call (an_abs (uncompared (single (single (single (single (single (single (tightest (unsigned (alone (bare (a_name (codes "a"))))))))))))))))))))))))))

pub returns-clause-lesser : goal.returns-clause-lesser
returns-clause-lesser c = a_print (uncompared (single (single (single (single (single (single (tightest (unsigned (alone (bare (a_call (a_minimum (uncompared (single (single (single (single (single (single (tightest (unsigned (alone (bare (a_name (codes "a"))))))))))))) (uncompared (single (single (single (single (single (single (tightest (unsigned (alone (bare (a_name (codes "b"))))))))))))))))))))))))))

pub returns-clause-greater : goal.returns-clause-greater
returns-clause-greater c = a_print (uncompared (single (single (single (single (single (single (tightest (unsigned (alone (bare (a_call (a_maximum (uncompared (single (single (single (single (single (single (tightest (unsigned (alone (bare (a_name (codes "a"))))))))))))) (uncompared (single (single (single (single (single (single (tightest (unsigned (alone (bare (a_name (codes "b"))))))))))))))))))))))))))

pub returns-clause-sum : goal.returns-clause-sum
returns-clause-sum c = a_print (uncompared (single (single (single (single (single (single (tightest (unsigned (alone (bare (a_call (a_reduction Sum (uncompared (single (single (single (single (single (single (tightest (unsigned (alone (bare (a_name (codes "a"))))))))))))) no_axis)))))))))))))

pub returns-clause-take_flat : goal.returns-clause-take_flat
returns-clause-take_flat c = a_print (uncompared (single (single (single (single (single (single (tightest (unsigned (alone (bare (a_call (a_take (uncompared (single (single (single (single (single (single (tightest (unsigned (alone (bare (a_name (codes "a"))))))))))))) (uncompared (single (single (single (single (single (single (tightest (unsigned (alone (bare (a_name (codes "i"))))))))))))) no_axis)))))))))))))

pub returns-clause-transpose_axes : goal.returns-clause-transpose_axes
returns-clause-transpose_axes c = a_print (uncompared (single (single (single (single (single (single (tightest (unsigned (alone (bare (a_call (a_transpose (uncompared (single (single (single (single (single (single (tightest (unsigned (alone (bare (a_name (codes "a"))))))))))))) (a_tuple (uncompared (single (single (single (single (single (single (tightest (unsigned (alone (bare (a_number 1)))))))))))) (last_member (uncompared (single (single (single (single (single (single (tightest (unsigned (alone (bare (a_number 0)))))))))))))))))))))))))))

pub returns-clause-broadcast : goal.returns-clause-broadcast
returns-clause-broadcast c = a_print (uncompared (single (single (single (single (single (single (tightest (unsigned (alone (bare (a_call (a_broadcast (uncompared (single (single (single (single (single (single (tightest (unsigned (alone (bare (a_name (codes "a"))))))))))))) (one_extent (uncompared (single (single (single (single (single (single (tightest (unsigned (alone (bare (a_number 3))))))))))))))))))))))))))

pub returns-clause-scan_flat : goal.returns-clause-scan_flat
returns-clause-scan_flat c = a_print (uncompared (single (single (single (single (single (single (tightest (unsigned (alone (bare (a_call (a_scan CumSum (uncompared (single (single (single (single (single (single (tightest (unsigned (alone (bare (a_name (codes "a"))))))))))))) no_axis)))))))))))))
