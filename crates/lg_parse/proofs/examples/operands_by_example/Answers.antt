use Rattle.std.proofs.Common.{[], ◌∷◌, codes, refl, sym}
use Rattle.lg_elem.specs.declared.dtype.DType.TheVariants.{Int8}
use Rattle.lg_lex.specs.declared.tokens.TokenKind.TheVariants.{LeftParenthesis, Plus, RightParenthesis}
use Rattle.lg_tree.specs.declared.kinds.Arith.TheVariants.{Add}
use Rattle.lg_tree.specs.declared.kinds.Red.TheVariants.{Sum}
use Rattle.lg_parse.specs.declared.operators.Operator.TheVariants.{Each}
use Rattle.lg_parse.specs.declared.words.Function.TheVariants.{Reduce}
use Rattle.lg_parse.specs.declared.words.Word.TheVariants.{NewAxis, Print, Unused}
use Rattle.lg_parse.specs.Expressions.{uncompared, tightest, single, joined, negative, unsigned, alone, raised, bare, suffixed, a_number, a_truth, a_name, enclosed, indexed, turned, a_place, last_item}
use Rattle.lg_parse.specs.Statements.{a_print}
use Rattle.lg_parse.specs.Terminal.{word, element, function, sign}
use Rattle.lg_parse.specs.Terminal as t
use Rattle.lg_parse.specs.Methods.{method_of}
use Rattle.lg_parse.specs.Parsing as p
use Rattle.lg_parse.specs.ParsingHeads as h
use Rattle.lg_parse.proofs.EndingLemmas.{none_is}
use Rattle.lg_parse.proofs.HeadLemmas.{head_reached}
use Rattle.lg_parse.proofs.examples.operands_by_example.Goals as goal

pub returns-clause-truth : goal.returns-clause-truth
returns-clause-truth c = a_print (uncompared (single (single (single (single (single (single (tightest (unsigned (alone (bare a_truth)))))))))))

pub returns-clause-base : goal.returns-clause-base
returns-clause-base c = a_print (uncompared (single (single (single (single (single (single (tightest (unsigned (alone (suffixed (bare (enclosed (uncompared (single (single (single (single (joined Plus (Each Add) refl (single (single (tightest (unsigned (alone (bare (a_name (codes "a")))))))) (single (tightest (unsigned (alone (bare (a_name (codes "b"))))))))))))))) (indexed (last_item (a_place (uncompared (single (single (single (single (single (single (tightest (unsigned (alone (bare (a_number 0))))))))))))))))))))))))))

pub returns-clause-raised_index : goal.returns-clause-raised_index
returns-clause-raised_index c = a_print (uncompared (single (single (single (single (single (single (tightest (unsigned (raised (suffixed (bare (a_name (codes "a"))) (indexed (last_item (a_place (uncompared (single (single (single (single (single (single (tightest (unsigned (alone (bare (a_number 0)))))))))))))))) (unsigned (alone (bare (a_name (codes "b")))))))))))))))

pub returns-clause-negative_method : goal.returns-clause-negative_method
returns-clause-negative_method c = a_print (uncompared (single (single (single (single (single (single (tightest (negative (unsigned (alone (suffixed (bare (a_name (codes "a"))) turned))))))))))))

pub returns-clause-no_axis_here : goal.returns-clause-no_axis_here
unfolding method_of p.same_kind p.same_word p.eat p.expect p.eat_word p.expect_word p.low p.element_type p.named_type p.dtype p.ending p.a_word p.more p.members p.extents p.empty p.next p.last p.other_members p.filled_tuple p.tuple_shape p.shape p.next_shape p.other_extents p.plain_extents p.several p.leaf_entry p.entry_by p.bracketed p.along p.axis p.axis_ending p.full_call p.even_call p.second p.arange_call p.array_call p.abs_call p.pair_call p.where_call p.axis_call p.take_call p.transpose_call p.broadcast_call p.stencil_call p.apply_call p.called p.enclosed p.atom p.part p.step p.sliced p.placed p.item p.items p.casting p.reshaping p.transposing p.reducing p.method p.indexing p.suffixes p.postfix p.power p.unary p.level p.expression p.parse h.assigned h.printing h.loading h.saving h.bound h.looping h.binding h.updating h.putting h.named h.head
returns-clause-no_axis_here c r k = none_is _ (sym (head_reached (word Print ∷ sign LeftParenthesis ∷ word NewAxis ∷ sign RightParenthesis ∷ []) r k))

pub returns-clause-no_type_alone : goal.returns-clause-no_type_alone
unfolding method_of p.same_kind p.same_word p.eat p.expect p.eat_word p.expect_word p.low p.element_type p.named_type p.dtype p.ending p.a_word p.more p.members p.extents p.empty p.next p.last p.other_members p.filled_tuple p.tuple_shape p.shape p.next_shape p.other_extents p.plain_extents p.several p.leaf_entry p.entry_by p.bracketed p.along p.axis p.axis_ending p.full_call p.even_call p.second p.arange_call p.array_call p.abs_call p.pair_call p.where_call p.axis_call p.take_call p.transpose_call p.broadcast_call p.stencil_call p.apply_call p.called p.enclosed p.atom p.part p.step p.sliced p.placed p.item p.items p.casting p.reshaping p.transposing p.reducing p.method p.indexing p.suffixes p.postfix p.power p.unary p.level p.expression p.parse h.assigned h.printing h.loading h.saving h.bound h.looping h.binding h.updating h.putting h.named h.head
returns-clause-no_type_alone c r k = none_is _ (sym (head_reached (word Print ∷ sign LeftParenthesis ∷ element Int8 ∷ sign RightParenthesis ∷ []) r k))

pub returns-clause-no_function_alone : goal.returns-clause-no_function_alone
unfolding method_of p.same_kind p.same_word p.eat p.expect p.eat_word p.expect_word p.low p.element_type p.named_type p.dtype p.ending p.a_word p.more p.members p.extents p.empty p.next p.last p.other_members p.filled_tuple p.tuple_shape p.shape p.next_shape p.other_extents p.plain_extents p.several p.leaf_entry p.entry_by p.bracketed p.along p.axis p.axis_ending p.full_call p.even_call p.second p.arange_call p.array_call p.abs_call p.pair_call p.where_call p.axis_call p.take_call p.transpose_call p.broadcast_call p.stencil_call p.apply_call p.called p.enclosed p.atom p.part p.step p.sliced p.placed p.item p.items p.casting p.reshaping p.transposing p.reducing p.method p.indexing p.suffixes p.postfix p.power p.unary p.level p.expression p.parse h.assigned h.printing h.loading h.saving h.bound h.looping h.binding h.updating h.putting h.named h.head
returns-clause-no_function_alone c r k = none_is _ (sym (head_reached (word Print ∷ sign LeftParenthesis ∷ function (Reduce Sum) ∷ sign RightParenthesis ∷ []) r k))

pub returns-clause-no_parentheses : goal.returns-clause-no_parentheses
unfolding method_of p.same_kind p.same_word p.eat p.expect p.eat_word p.expect_word p.low p.element_type p.named_type p.dtype p.ending p.a_word p.more p.members p.extents p.empty p.next p.last p.other_members p.filled_tuple p.tuple_shape p.shape p.next_shape p.other_extents p.plain_extents p.several p.leaf_entry p.entry_by p.bracketed p.along p.axis p.axis_ending p.full_call p.even_call p.second p.arange_call p.array_call p.abs_call p.pair_call p.where_call p.axis_call p.take_call p.transpose_call p.broadcast_call p.stencil_call p.apply_call p.called p.enclosed p.atom p.part p.step p.sliced p.placed p.item p.items p.casting p.reshaping p.transposing p.reducing p.method p.indexing p.suffixes p.postfix p.power p.unary p.level p.expression p.parse h.assigned h.printing h.loading h.saving h.bound h.looping h.binding h.updating h.putting h.named h.head
returns-clause-no_parentheses c r k = none_is _ (sym (head_reached (word Print ∷ sign LeftParenthesis ∷ sign LeftParenthesis ∷ sign RightParenthesis ∷ sign RightParenthesis ∷ []) r k))

pub returns-clause-no_close : goal.returns-clause-no_close
unfolding method_of p.same_kind p.same_word p.eat p.expect p.eat_word p.expect_word p.low p.element_type p.named_type p.dtype p.ending p.a_word p.more p.members p.extents p.empty p.next p.last p.other_members p.filled_tuple p.tuple_shape p.shape p.next_shape p.other_extents p.plain_extents p.several p.leaf_entry p.entry_by p.bracketed p.along p.axis p.axis_ending p.full_call p.even_call p.second p.arange_call p.array_call p.abs_call p.pair_call p.where_call p.axis_call p.take_call p.transpose_call p.broadcast_call p.stencil_call p.apply_call p.called p.enclosed p.atom p.part p.step p.sliced p.placed p.item p.items p.casting p.reshaping p.transposing p.reducing p.method p.indexing p.suffixes p.postfix p.power p.unary p.level p.expression p.parse h.assigned h.printing h.loading h.saving h.bound h.looping h.binding h.updating h.putting h.named h.head
returns-clause-no_close c r k = none_is _ (sym (head_reached (word Print ∷ sign LeftParenthesis ∷ sign LeftParenthesis ∷ t.name (codes "a") ∷ sign RightParenthesis ∷ []) r k))

pub returns-clause-no_keyword_as_name : goal.returns-clause-no_keyword_as_name
unfolding method_of p.same_kind p.same_word p.eat p.expect p.eat_word p.expect_word p.low p.element_type p.named_type p.dtype p.ending p.a_word p.more p.members p.extents p.empty p.next p.last p.other_members p.filled_tuple p.tuple_shape p.shape p.next_shape p.other_extents p.plain_extents p.several p.leaf_entry p.entry_by p.bracketed p.along p.axis p.axis_ending p.full_call p.even_call p.second p.arange_call p.array_call p.abs_call p.pair_call p.where_call p.axis_call p.take_call p.transpose_call p.broadcast_call p.stencil_call p.apply_call p.called p.enclosed p.atom p.part p.step p.sliced p.placed p.item p.items p.casting p.reshaping p.transposing p.reducing p.method p.indexing p.suffixes p.postfix p.power p.unary p.level p.expression p.parse h.assigned h.printing h.loading h.saving h.bound h.looping h.binding h.updating h.putting h.named h.head
returns-clause-no_keyword_as_name c r k = none_is _ (sym (head_reached (word Print ∷ sign LeftParenthesis ∷ t.name (codes "a") ∷ sign Plus ∷ word Unused ∷ sign RightParenthesis ∷ []) r k))
