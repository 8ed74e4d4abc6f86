use Rattle.std.proofs.Common.{[], ◌∷◌, codes, sym}
use Rattle.lg_elem.specs.declared.dtype.DType.TheVariants.{Int8}
use Rattle.lg_lex.specs.declared.tokens.TokenKind.TheVariants.{Colon, Comma, Equal, EqualEqual, LeftBracket, LeftParenthesis, Plus, RightBracket, RightParenthesis}
use Rattle.lg_tree.specs.declared.kinds.Red.TheVariants.{Sum}
use Rattle.lg_parse.specs.declared.words.Function.TheVariants.{Reduce}
use Rattle.lg_parse.specs.declared.words.Word.TheVariants.{For, In, Load, Print, Range, Save, Unused}
use Rattle.lg_parse.specs.Terminal.{word, element, function, sign}
use Rattle.lg_parse.specs.Terminal as t
use Rattle.lg_parse.specs.Methods.{method_of}
use Rattle.lg_parse.specs.Parsing as p
use Rattle.lg_parse.specs.ParsingHeads as h
use Rattle.lg_parse.proofs.EndingLemmas.{none_is, left_is}
use Rattle.lg_parse.proofs.HeadLemmas.{head_reached}
use Rattle.lg_parse.proofs.examples.no_heads_by_example.Goals as goal

pub returns-clause-no_keyword : goal.returns-clause-no_keyword
unfolding method_of p.same_kind p.same_word p.eat p.expect p.eat_word p.expect_word p.low p.element_type p.named_type p.dtype p.ending p.a_word p.more p.members p.extents p.empty p.next p.last p.other_members p.filled_tuple p.tuple_shape p.shape p.next_shape p.other_extents p.plain_extents p.several p.leaf_entry p.entry_by p.bracketed p.along p.axis p.axis_ending p.full_call p.even_call p.second p.arange_call p.array_call p.abs_call p.pair_call p.where_call p.axis_call p.take_call p.transpose_call p.broadcast_call p.stencil_call p.apply_call p.called p.enclosed p.atom p.part p.step p.sliced p.placed p.item p.items p.casting p.reshaping p.transposing p.reducing p.method p.indexing p.suffixes p.postfix p.power p.unary p.level p.expression p.parse h.assigned h.printing h.loading h.saving h.bound h.looping h.binding h.updating h.putting h.named h.head
returns-clause-no_keyword c r k = none_is _ (sym (head_reached (word Unused ∷ sign Equal ∷ t.number 1 ∷ []) r k))

pub returns-clause-no_function : goal.returns-clause-no_function
unfolding method_of p.same_kind p.same_word p.eat p.expect p.eat_word p.expect_word p.low p.element_type p.named_type p.dtype p.ending p.a_word p.more p.members p.extents p.empty p.next p.last p.other_members p.filled_tuple p.tuple_shape p.shape p.next_shape p.other_extents p.plain_extents p.several p.leaf_entry p.entry_by p.bracketed p.along p.axis p.axis_ending p.full_call p.even_call p.second p.arange_call p.array_call p.abs_call p.pair_call p.where_call p.axis_call p.take_call p.transpose_call p.broadcast_call p.stencil_call p.apply_call p.called p.enclosed p.atom p.part p.step p.sliced p.placed p.item p.items p.casting p.reshaping p.transposing p.reducing p.method p.indexing p.suffixes p.postfix p.power p.unary p.level p.expression p.parse h.assigned h.printing h.loading h.saving h.bound h.looping h.binding h.updating h.putting h.named h.head
returns-clause-no_function c r k = none_is _ (sym (head_reached (function (Reduce Sum) ∷ sign Equal ∷ t.number 1 ∷ []) r k))

pub returns-clause-no_type : goal.returns-clause-no_type
unfolding method_of p.same_kind p.same_word p.eat p.expect p.eat_word p.expect_word p.low p.element_type p.named_type p.dtype p.ending p.a_word p.more p.members p.extents p.empty p.next p.last p.other_members p.filled_tuple p.tuple_shape p.shape p.next_shape p.other_extents p.plain_extents p.several p.leaf_entry p.entry_by p.bracketed p.along p.axis p.axis_ending p.full_call p.even_call p.second p.arange_call p.array_call p.abs_call p.pair_call p.where_call p.axis_call p.take_call p.transpose_call p.broadcast_call p.stencil_call p.apply_call p.called p.enclosed p.atom p.part p.step p.sliced p.placed p.item p.items p.casting p.reshaping p.transposing p.reducing p.method p.indexing p.suffixes p.postfix p.power p.unary p.level p.expression p.parse h.assigned h.printing h.loading h.saving h.bound h.looping h.binding h.updating h.putting h.named h.head
returns-clause-no_type c r k = none_is _ (sym (head_reached (element Int8 ∷ sign Equal ∷ t.number 1 ∷ []) r k))

pub returns-clause-no_comparison : goal.returns-clause-no_comparison
unfolding method_of p.same_kind p.same_word p.eat p.expect p.eat_word p.expect_word p.low p.element_type p.named_type p.dtype p.ending p.a_word p.more p.members p.extents p.empty p.next p.last p.other_members p.filled_tuple p.tuple_shape p.shape p.next_shape p.other_extents p.plain_extents p.several p.leaf_entry p.entry_by p.bracketed p.along p.axis p.axis_ending p.full_call p.even_call p.second p.arange_call p.array_call p.abs_call p.pair_call p.where_call p.axis_call p.take_call p.transpose_call p.broadcast_call p.stencil_call p.apply_call p.called p.enclosed p.atom p.part p.step p.sliced p.placed p.item p.items p.casting p.reshaping p.transposing p.reducing p.method p.indexing p.suffixes p.postfix p.power p.unary p.level p.expression p.parse h.assigned h.printing h.loading h.saving h.bound h.looping h.binding h.updating h.putting h.named h.head
returns-clause-no_comparison c r k = none_is _ (sym (head_reached (t.name (codes "a") ∷ sign EqualEqual ∷ t.number 1 ∷ []) r k))

pub returns-clause-no_expression : goal.returns-clause-no_expression
unfolding method_of p.same_kind p.same_word p.eat p.expect p.eat_word p.expect_word p.low p.element_type p.named_type p.dtype p.ending p.a_word p.more p.members p.extents p.empty p.next p.last p.other_members p.filled_tuple p.tuple_shape p.shape p.next_shape p.other_extents p.plain_extents p.several p.leaf_entry p.entry_by p.bracketed p.along p.axis p.axis_ending p.full_call p.even_call p.second p.arange_call p.array_call p.abs_call p.pair_call p.where_call p.axis_call p.take_call p.transpose_call p.broadcast_call p.stencil_call p.apply_call p.called p.enclosed p.atom p.part p.step p.sliced p.placed p.item p.items p.casting p.reshaping p.transposing p.reducing p.method p.indexing p.suffixes p.postfix p.power p.unary p.level p.expression p.parse h.assigned h.printing h.loading h.saving h.bound h.looping h.binding h.updating h.putting h.named h.head
returns-clause-no_expression c r k = none_is _ (sym (head_reached (t.name (codes "a") ∷ sign Plus ∷ t.number 1 ∷ []) r k))

pub returns-clause-no_empty_index : goal.returns-clause-no_empty_index
unfolding method_of p.same_kind p.same_word p.eat p.expect p.eat_word p.expect_word p.low p.element_type p.named_type p.dtype p.ending p.a_word p.more p.members p.extents p.empty p.next p.last p.other_members p.filled_tuple p.tuple_shape p.shape p.next_shape p.other_extents p.plain_extents p.several p.leaf_entry p.entry_by p.bracketed p.along p.axis p.axis_ending p.full_call p.even_call p.second p.arange_call p.array_call p.abs_call p.pair_call p.where_call p.axis_call p.take_call p.transpose_call p.broadcast_call p.stencil_call p.apply_call p.called p.enclosed p.atom p.part p.step p.sliced p.placed p.item p.items p.casting p.reshaping p.transposing p.reducing p.method p.indexing p.suffixes p.postfix p.power p.unary p.level p.expression p.parse h.assigned h.printing h.loading h.saving h.bound h.looping h.binding h.updating h.putting h.named h.head
returns-clause-no_empty_index c r k = none_is _ (sym (head_reached (t.name (codes "a") ∷ sign LeftBracket ∷ sign RightBracket ∷ sign Equal ∷ t.number 1 ∷ []) r k))

pub returns-clause-no_index_alone : goal.returns-clause-no_index_alone
unfolding method_of p.same_kind p.same_word p.eat p.expect p.eat_word p.expect_word p.low p.element_type p.named_type p.dtype p.ending p.a_word p.more p.members p.extents p.empty p.next p.last p.other_members p.filled_tuple p.tuple_shape p.shape p.next_shape p.other_extents p.plain_extents p.several p.leaf_entry p.entry_by p.bracketed p.along p.axis p.axis_ending p.full_call p.even_call p.second p.arange_call p.array_call p.abs_call p.pair_call p.where_call p.axis_call p.take_call p.transpose_call p.broadcast_call p.stencil_call p.apply_call p.called p.enclosed p.atom p.part p.step p.sliced p.placed p.item p.items p.casting p.reshaping p.transposing p.reducing p.method p.indexing p.suffixes p.postfix p.power p.unary p.level p.expression p.parse h.assigned h.printing h.loading h.saving h.bound h.looping h.binding h.updating h.putting h.named h.head
returns-clause-no_index_alone c r k = none_is _ (sym (head_reached (t.name (codes "a") ∷ sign LeftBracket ∷ t.number 0 ∷ sign RightBracket ∷ []) r k))

pub returns-clause-no_second_index : goal.returns-clause-no_second_index
unfolding method_of p.same_kind p.same_word p.eat p.expect p.eat_word p.expect_word p.low p.element_type p.named_type p.dtype p.ending p.a_word p.more p.members p.extents p.empty p.next p.last p.other_members p.filled_tuple p.tuple_shape p.shape p.next_shape p.other_extents p.plain_extents p.several p.leaf_entry p.entry_by p.bracketed p.along p.axis p.axis_ending p.full_call p.even_call p.second p.arange_call p.array_call p.abs_call p.pair_call p.where_call p.axis_call p.take_call p.transpose_call p.broadcast_call p.stencil_call p.apply_call p.called p.enclosed p.atom p.part p.step p.sliced p.placed p.item p.items p.casting p.reshaping p.transposing p.reducing p.method p.indexing p.suffixes p.postfix p.power p.unary p.level p.expression p.parse h.assigned h.printing h.loading h.saving h.bound h.looping h.binding h.updating h.putting h.named h.head
returns-clause-no_second_index c r k = none_is _ (sym (head_reached (t.name (codes "a") ∷ sign LeftBracket ∷ t.number 0 ∷ sign RightBracket ∷ sign LeftBracket ∷ t.number 1 ∷ sign RightBracket ∷ sign Equal ∷ t.number 2 ∷ []) r k))

pub returns-clause-no_print_of_two : goal.returns-clause-no_print_of_two
unfolding method_of p.same_kind p.same_word p.eat p.expect p.eat_word p.expect_word p.low p.element_type p.named_type p.dtype p.ending p.a_word p.more p.members p.extents p.empty p.next p.last p.other_members p.filled_tuple p.tuple_shape p.shape p.next_shape p.other_extents p.plain_extents p.several p.leaf_entry p.entry_by p.bracketed p.along p.axis p.axis_ending p.full_call p.even_call p.second p.arange_call p.array_call p.abs_call p.pair_call p.where_call p.axis_call p.take_call p.transpose_call p.broadcast_call p.stencil_call p.apply_call p.called p.enclosed p.atom p.part p.step p.sliced p.placed p.item p.items p.casting p.reshaping p.transposing p.reducing p.method p.indexing p.suffixes p.postfix p.power p.unary p.level p.expression p.parse h.assigned h.printing h.loading h.saving h.bound h.looping h.binding h.updating h.putting h.named h.head
returns-clause-no_print_of_two c r k = none_is _ (sym (head_reached (word Print ∷ sign LeftParenthesis ∷ t.name (codes "a") ∷ sign Comma ∷ t.name (codes "b") ∷ sign RightParenthesis ∷ []) r k))

pub returns-clause-no_print_of_none : goal.returns-clause-no_print_of_none
unfolding method_of p.same_kind p.same_word p.eat p.expect p.eat_word p.expect_word p.low p.element_type p.named_type p.dtype p.ending p.a_word p.more p.members p.extents p.empty p.next p.last p.other_members p.filled_tuple p.tuple_shape p.shape p.next_shape p.other_extents p.plain_extents p.several p.leaf_entry p.entry_by p.bracketed p.along p.axis p.axis_ending p.full_call p.even_call p.second p.arange_call p.array_call p.abs_call p.pair_call p.where_call p.axis_call p.take_call p.transpose_call p.broadcast_call p.stencil_call p.apply_call p.called p.enclosed p.atom p.part p.step p.sliced p.placed p.item p.items p.casting p.reshaping p.transposing p.reducing p.method p.indexing p.suffixes p.postfix p.power p.unary p.level p.expression p.parse h.assigned h.printing h.loading h.saving h.bound h.looping h.binding h.updating h.putting h.named h.head
returns-clause-no_print_of_none c r k = none_is _ (sym (head_reached (word Print ∷ sign LeftParenthesis ∷ sign RightParenthesis ∷ []) r k))

pub returns-clause-no_bound : goal.returns-clause-no_bound
unfolding method_of p.same_kind p.same_word p.eat p.expect p.eat_word p.expect_word p.low p.element_type p.named_type p.dtype p.ending p.a_word p.more p.members p.extents p.empty p.next p.last p.other_members p.filled_tuple p.tuple_shape p.shape p.next_shape p.other_extents p.plain_extents p.several p.leaf_entry p.entry_by p.bracketed p.along p.axis p.axis_ending p.full_call p.even_call p.second p.arange_call p.array_call p.abs_call p.pair_call p.where_call p.axis_call p.take_call p.transpose_call p.broadcast_call p.stencil_call p.apply_call p.called p.enclosed p.atom p.part p.step p.sliced p.placed p.item p.items p.casting p.reshaping p.transposing p.reducing p.method p.indexing p.suffixes p.postfix p.power p.unary p.level p.expression p.parse h.assigned h.printing h.loading h.saving h.bound h.looping h.binding h.updating h.putting h.named h.head
returns-clause-no_bound c r k = none_is _ (sym (head_reached (word For ∷ t.name (codes "i") ∷ word In ∷ word Range ∷ sign LeftParenthesis ∷ sign RightParenthesis ∷ sign Colon ∷ []) r k))

pub returns-clause-no_third_bound : goal.returns-clause-no_third_bound
unfolding method_of p.same_kind p.same_word p.eat p.expect p.eat_word p.expect_word p.low p.element_type p.named_type p.dtype p.ending p.a_word p.more p.members p.extents p.empty p.next p.last p.other_members p.filled_tuple p.tuple_shape p.shape p.next_shape p.other_extents p.plain_extents p.several p.leaf_entry p.entry_by p.bracketed p.along p.axis p.axis_ending p.full_call p.even_call p.second p.arange_call p.array_call p.abs_call p.pair_call p.where_call p.axis_call p.take_call p.transpose_call p.broadcast_call p.stencil_call p.apply_call p.called p.enclosed p.atom p.part p.step p.sliced p.placed p.item p.items p.casting p.reshaping p.transposing p.reducing p.method p.indexing p.suffixes p.postfix p.power p.unary p.level p.expression p.parse h.assigned h.printing h.loading h.saving h.bound h.looping h.binding h.updating h.putting h.named h.head
returns-clause-no_third_bound c r k = none_is _ (sym (head_reached (word For ∷ t.name (codes "i") ∷ word In ∷ word Range ∷ sign LeftParenthesis ∷ t.number 1 ∷ sign Comma ∷ t.number 2 ∷ sign Comma ∷ t.number 3 ∷ sign RightParenthesis ∷ sign Colon ∷ []) r k))

pub returns-clause-no_range : goal.returns-clause-no_range
unfolding method_of p.same_kind p.same_word p.eat p.expect p.eat_word p.expect_word p.low p.element_type p.named_type p.dtype p.ending p.a_word p.more p.members p.extents p.empty p.next p.last p.other_members p.filled_tuple p.tuple_shape p.shape p.next_shape p.other_extents p.plain_extents p.several p.leaf_entry p.entry_by p.bracketed p.along p.axis p.axis_ending p.full_call p.even_call p.second p.arange_call p.array_call p.abs_call p.pair_call p.where_call p.axis_call p.take_call p.transpose_call p.broadcast_call p.stencil_call p.apply_call p.called p.enclosed p.atom p.part p.step p.sliced p.placed p.item p.items p.casting p.reshaping p.transposing p.reducing p.method p.indexing p.suffixes p.postfix p.power p.unary p.level p.expression p.parse h.assigned h.printing h.loading h.saving h.bound h.looping h.binding h.updating h.putting h.named h.head
returns-clause-no_range c r k = none_is _ (sym (head_reached (word For ∷ t.name (codes "i") ∷ word In ∷ t.name (codes "a") ∷ sign Colon ∷ []) r k))

pub returns-clause-no_number_as_file : goal.returns-clause-no_number_as_file
unfolding method_of p.same_kind p.same_word p.eat p.expect p.eat_word p.expect_word p.low p.element_type p.named_type p.dtype p.ending p.a_word p.more p.members p.extents p.empty p.next p.last p.other_members p.filled_tuple p.tuple_shape p.shape p.next_shape p.other_extents p.plain_extents p.several p.leaf_entry p.entry_by p.bracketed p.along p.axis p.axis_ending p.full_call p.even_call p.second p.arange_call p.array_call p.abs_call p.pair_call p.where_call p.axis_call p.take_call p.transpose_call p.broadcast_call p.stencil_call p.apply_call p.called p.enclosed p.atom p.part p.step p.sliced p.placed p.item p.items p.casting p.reshaping p.transposing p.reducing p.method p.indexing p.suffixes p.postfix p.power p.unary p.level p.expression p.parse h.assigned h.printing h.loading h.saving h.bound h.looping h.binding h.updating h.putting h.named h.head
returns-clause-no_number_as_file c r k = none_is _ (sym (head_reached (t.name (codes "a") ∷ sign Equal ∷ word Load ∷ sign LeftParenthesis ∷ t.number 1 ∷ sign RightParenthesis ∷ []) r k))

pub returns-clause-no_sum_of_load : goal.returns-clause-no_sum_of_load
unfolding method_of p.same_kind p.same_word p.eat p.expect p.eat_word p.expect_word p.low p.element_type p.named_type p.dtype p.ending p.a_word p.more p.members p.extents p.empty p.next p.last p.other_members p.filled_tuple p.tuple_shape p.shape p.next_shape p.other_extents p.plain_extents p.several p.leaf_entry p.entry_by p.bracketed p.along p.axis p.axis_ending p.full_call p.even_call p.second p.arange_call p.array_call p.abs_call p.pair_call p.where_call p.axis_call p.take_call p.transpose_call p.broadcast_call p.stencil_call p.apply_call p.called p.enclosed p.atom p.part p.step p.sliced p.placed p.item p.items p.casting p.reshaping p.transposing p.reducing p.method p.indexing p.suffixes p.postfix p.power p.unary p.level p.expression p.parse h.assigned h.printing h.loading h.saving h.bound h.looping h.binding h.updating h.putting h.named h.head
returns-clause-no_sum_of_load c r k = left_is _ _ _ _ (sym (head_reached (t.name (codes "a") ∷ sign Equal ∷ word Load ∷ sign LeftParenthesis ∷ t.name (codes "k") ∷ sign RightParenthesis ∷ sign Plus ∷ t.number 1 ∷ []) r k))

pub returns-clause-no_file : goal.returns-clause-no_file
unfolding method_of p.same_kind p.same_word p.eat p.expect p.eat_word p.expect_word p.low p.element_type p.named_type p.dtype p.ending p.a_word p.more p.members p.extents p.empty p.next p.last p.other_members p.filled_tuple p.tuple_shape p.shape p.next_shape p.other_extents p.plain_extents p.several p.leaf_entry p.entry_by p.bracketed p.along p.axis p.axis_ending p.full_call p.even_call p.second p.arange_call p.array_call p.abs_call p.pair_call p.where_call p.axis_call p.take_call p.transpose_call p.broadcast_call p.stencil_call p.apply_call p.called p.enclosed p.atom p.part p.step p.sliced p.placed p.item p.items p.casting p.reshaping p.transposing p.reducing p.method p.indexing p.suffixes p.postfix p.power p.unary p.level p.expression p.parse h.assigned h.printing h.loading h.saving h.bound h.looping h.binding h.updating h.putting h.named h.head
returns-clause-no_file c r k = none_is _ (sym (head_reached (word Save ∷ sign LeftParenthesis ∷ t.name (codes "a") ∷ sign RightParenthesis ∷ []) r k))

pub returns-clause-no_second_line : goal.returns-clause-no_second_line
unfolding method_of p.same_kind p.same_word p.eat p.expect p.eat_word p.expect_word p.low p.element_type p.named_type p.dtype p.ending p.a_word p.more p.members p.extents p.empty p.next p.last p.other_members p.filled_tuple p.tuple_shape p.shape p.next_shape p.other_extents p.plain_extents p.several p.leaf_entry p.entry_by p.bracketed p.along p.axis p.axis_ending p.full_call p.even_call p.second p.arange_call p.array_call p.abs_call p.pair_call p.where_call p.axis_call p.take_call p.transpose_call p.broadcast_call p.stencil_call p.apply_call p.called p.enclosed p.atom p.part p.step p.sliced p.placed p.item p.items p.casting p.reshaping p.transposing p.reducing p.method p.indexing p.suffixes p.postfix p.power p.unary p.level p.expression p.parse h.assigned h.printing h.loading h.saving h.bound h.looping h.binding h.updating h.putting h.named h.head
returns-clause-no_second_line c r k = left_is _ _ _ _ (sym (head_reached (word Print ∷ sign LeftParenthesis ∷ t.name (codes "a") ∷ sign RightParenthesis ∷ word Print ∷ sign LeftParenthesis ∷ t.name (codes "b") ∷ sign RightParenthesis ∷ []) r k))
