use Rattle.std.proofs.Common.{[], ◌∷◌, codes, sym}
use Rattle.lg_elem.specs.declared.dtype.DType.TheVariants.{Int8, Bool as Truth}
use Rattle.lg_lex.specs.declared.tokens.TokenKind.TheVariants.{Comma, LeftParenthesis, RightParenthesis}
use Rattle.lg_tree.specs.declared.kinds.Red.TheVariants.{Sum}
use Rattle.lg_tree.specs.declared.kinds.ScanCall.TheVariants.{CumSum}
use Rattle.lg_parse.specs.declared.words.Function.TheVariants.{Abs, Zeros}
use Rattle.lg_parse.specs.declared.words.Word.TheVariants.{Print}
use Rattle.lg_parse.specs.Expressions.{uncompared, tightest, single, unsigned, alone, bare, a_number, a_name, a_call, a_full, some_zeros, a_range_to, a_range, a_choice, a_reduction, a_scan, a_take, a_reversal, a_stencil, an_application, plain_axis, named_axis, an_axis, one_extent, a_list, last_entry, next_entry, one_entry}
use Rattle.lg_parse.specs.Statements.{a_bind, a_print}
use Rattle.lg_parse.specs.Types.{no_type, plain_type, named_type}
use Rattle.lg_parse.specs.Terminal.{word, element, function, sign}
use Rattle.lg_parse.specs.Terminal as t
use Rattle.lg_parse.specs.Methods.{method_of}
use Rattle.lg_parse.specs.Parsing as p
use Rattle.lg_parse.specs.ParsingHeads as h
use Rattle.lg_parse.proofs.EndingLemmas.{none_is}
use Rattle.lg_parse.proofs.HeadLemmas.{head_reached}
use Rattle.lg_parse.proofs.examples.calls_by_example.Goals as goal

pub returns-clause-full : goal.returns-clause-full
returns-clause-full c = a_bind (codes "x") (uncompared (single (single (single (single (single (single (tightest (unsigned (alone (bare (a_call (a_full (one_extent (uncompared (single (single (single (single (single (single (tightest (unsigned (alone (bare (a_number 3))))))))))))) (uncompared (single (single (single (single (single (single (tightest (unsigned (alone (bare (a_number 0)))))))))))) (plain_type Int8))))))))))))))

pub returns-clause-zeros : goal.returns-clause-zeros
returns-clause-zeros c = a_bind (codes "x") (uncompared (single (single (single (single (single (single (tightest (unsigned (alone (bare (a_call (some_zeros (one_extent (uncompared (single (single (single (single (single (single (tightest (unsigned (alone (bare (a_number 3))))))))))))) (named_type Truth))))))))))))))

pub returns-clause-arange : goal.returns-clause-arange
returns-clause-arange c = a_bind (codes "x") (uncompared (single (single (single (single (single (single (tightest (unsigned (alone (bare (a_call (a_range_to (uncompared (single (single (single (single (single (single (tightest (unsigned (alone (bare (a_number 3)))))))))))) no_type)))))))))))))

pub returns-clause-arange_type : goal.returns-clause-arange_type
returns-clause-arange_type c = a_bind (codes "x") (uncompared (single (single (single (single (single (single (tightest (unsigned (alone (bare (a_call (a_range (uncompared (single (single (single (single (single (single (tightest (unsigned (alone (bare (a_number 1)))))))))))) (uncompared (single (single (single (single (single (single (tightest (unsigned (alone (bare (a_number 3)))))))))))) (plain_type Int8))))))))))))))

pub returns-clause-choice : goal.returns-clause-choice
returns-clause-choice c = a_print (uncompared (single (single (single (single (single (single (tightest (unsigned (alone (bare (a_call (a_choice (uncompared (single (single (single (single (single (single (tightest (unsigned (alone (bare (a_name (codes "a"))))))))))))) (uncompared (single (single (single (single (single (single (tightest (unsigned (alone (bare (a_name (codes "b"))))))))))))) (uncompared (single (single (single (single (single (single (tightest (unsigned (alone (bare (a_name (codes "c"))))))))))))))))))))))))))

pub returns-clause-sum_axis : goal.returns-clause-sum_axis
returns-clause-sum_axis c = a_print (uncompared (single (single (single (single (single (single (tightest (unsigned (alone (bare (a_call (a_reduction Sum (uncompared (single (single (single (single (single (single (tightest (unsigned (alone (bare (a_name (codes "x"))))))))))))) (an_axis (named_axis (uncompared (single (single (single (single (single (single (tightest (unsigned (alone (bare (a_number 0)))))))))))))))))))))))))))

pub returns-clause-sum_plain : goal.returns-clause-sum_plain
returns-clause-sum_plain c = a_print (uncompared (single (single (single (single (single (single (tightest (unsigned (alone (bare (a_call (a_reduction Sum (uncompared (single (single (single (single (single (single (tightest (unsigned (alone (bare (a_name (codes "x"))))))))))))) (an_axis (plain_axis (uncompared (single (single (single (single (single (single (tightest (unsigned (alone (bare (a_number 0)))))))))))))))))))))))))))

pub returns-clause-take : goal.returns-clause-take
returns-clause-take c = a_print (uncompared (single (single (single (single (single (single (tightest (unsigned (alone (bare (a_call (a_take (uncompared (single (single (single (single (single (single (tightest (unsigned (alone (bare (a_name (codes "a"))))))))))))) (uncompared (single (single (single (single (single (single (tightest (unsigned (alone (bare (a_name (codes "i"))))))))))))) (an_axis (named_axis (uncompared (single (single (single (single (single (single (tightest (unsigned (alone (bare (a_number 0)))))))))))))))))))))))))))

pub returns-clause-transpose : goal.returns-clause-transpose
returns-clause-transpose c = a_print (uncompared (single (single (single (single (single (single (tightest (unsigned (alone (bare (a_call (a_reversal (uncompared (single (single (single (single (single (single (tightest (unsigned (alone (bare (a_name (codes "a"))))))))))))))))))))))))))

pub returns-clause-stencil : goal.returns-clause-stencil
returns-clause-stencil c = a_print (uncompared (single (single (single (single (single (single (tightest (unsigned (alone (bare (a_call (a_stencil (uncompared (single (single (single (single (single (single (tightest (unsigned (alone (bare (a_name (codes "a"))))))))))))) (a_list (next_entry (one_entry (uncompared (single (single (single (single (single (single (tightest (unsigned (alone (bare (a_number 1))))))))))))) (next_entry (one_entry (uncompared (single (single (single (single (single (single (tightest (unsigned (alone (bare (a_number 2))))))))))))) (last_entry (one_entry (uncompared (single (single (single (single (single (single (tightest (unsigned (alone (bare (a_number 1))))))))))))))))))))))))))))))

pub returns-clause-apply : goal.returns-clause-apply
returns-clause-apply c = a_print (uncompared (single (single (single (single (single (single (tightest (unsigned (alone (bare (a_call (an_application (codes "mix") (uncompared (single (single (single (single (single (single (tightest (unsigned (alone (bare (a_name (codes "a"))))))))))))) (uncompared (single (single (single (single (single (single (tightest (unsigned (alone (bare (a_name (codes "b"))))))))))))))))))))))))))

pub returns-clause-scan : goal.returns-clause-scan
returns-clause-scan c = a_print (uncompared (single (single (single (single (single (single (tightest (unsigned (alone (bare (a_call (a_scan CumSum (uncompared (single (single (single (single (single (single (tightest (unsigned (alone (bare (a_name (codes "a"))))))))))))) (an_axis (named_axis (uncompared (single (single (single (single (single (single (tightest (unsigned (alone (bare (a_number 0)))))))))))))))))))))))))))

pub returns-clause-no_last_comma : goal.returns-clause-no_last_comma
unfolding method_of p.same_kind p.same_word p.eat p.expect p.eat_word p.expect_word p.low p.element_type p.named_type p.dtype p.ending p.a_word p.more p.members p.extents p.empty p.next p.last p.other_members p.filled_tuple p.tuple_shape p.shape p.next_shape p.other_extents p.plain_extents p.several p.leaf_entry p.entry_by p.bracketed p.along p.axis p.axis_ending p.full_call p.even_call p.second p.arange_call p.array_call p.abs_call p.pair_call p.where_call p.axis_call p.take_call p.transpose_call p.broadcast_call p.stencil_call p.apply_call p.called p.enclosed p.atom p.part p.step p.sliced p.placed p.item p.items p.casting p.reshaping p.transposing p.reducing p.method p.indexing p.suffixes p.postfix p.power p.unary p.level p.expression p.parse h.assigned h.printing h.loading h.saving h.bound h.looping h.binding h.updating h.putting h.named h.head
returns-clause-no_last_comma c r k = none_is _ (sym (head_reached (word Print ∷ sign LeftParenthesis ∷ function Abs ∷ sign LeftParenthesis ∷ t.name (codes "a") ∷ sign Comma ∷ sign RightParenthesis ∷ sign RightParenthesis ∷ []) r k))

pub returns-clause-no_type_first : goal.returns-clause-no_type_first
unfolding method_of p.same_kind p.same_word p.eat p.expect p.eat_word p.expect_word p.low p.element_type p.named_type p.dtype p.ending p.a_word p.more p.members p.extents p.empty p.next p.last p.other_members p.filled_tuple p.tuple_shape p.shape p.next_shape p.other_extents p.plain_extents p.several p.leaf_entry p.entry_by p.bracketed p.along p.axis p.axis_ending p.full_call p.even_call p.second p.arange_call p.array_call p.abs_call p.pair_call p.where_call p.axis_call p.take_call p.transpose_call p.broadcast_call p.stencil_call p.apply_call p.called p.enclosed p.atom p.part p.step p.sliced p.placed p.item p.items p.casting p.reshaping p.transposing p.reducing p.method p.indexing p.suffixes p.postfix p.power p.unary p.level p.expression p.parse h.assigned h.printing h.loading h.saving h.bound h.looping h.binding h.updating h.putting h.named h.head
returns-clause-no_type_first c r k = none_is _ (sym (head_reached (word Print ∷ sign LeftParenthesis ∷ function Zeros ∷ sign LeftParenthesis ∷ element Int8 ∷ sign RightParenthesis ∷ sign RightParenthesis ∷ []) r k))
