use Rattle.std.proofs.Common.{[], ◌∷◌, codes, sym}
use Rattle.lg_elem.specs.declared.dtype.DType.TheVariants.{Int8}
use Rattle.lg_lex.specs.declared.tokens.TokenKind.TheVariants.{Comma, Dot, Equal, LeftParenthesis, RightParenthesis}
use Rattle.lg_tree.specs.declared.kinds.Red.TheVariants.{Sum}
use Rattle.lg_parse.specs.declared.words.Function.TheVariants.{Reduce, Take}
use Rattle.lg_parse.specs.declared.words.Word.TheVariants.{Dtype, Print}
use Rattle.lg_parse.specs.Terminal.{word, element, function, sign}
use Rattle.lg_parse.specs.Terminal as t
use Rattle.lg_parse.specs.Methods.{method_of}
use Rattle.lg_parse.specs.Parsing as p
use Rattle.lg_parse.specs.ParsingHeads as h
use Rattle.lg_parse.proofs.EndingLemmas.{none_is}
use Rattle.lg_parse.proofs.HeadLemmas.{head_reached}
use Rattle.lg_parse.proofs.examples.no_methods_by_example.Goals as goal

pub returns-clause-no_call_of_turned : goal.returns-clause-no_call_of_turned
unfolding method_of p.same_kind p.same_word p.eat p.expect p.eat_word p.expect_word p.low p.element_type p.named_type p.dtype p.ending p.a_word p.more p.members p.extents p.empty p.next p.last p.other_members p.filled_tuple p.tuple_shape p.shape p.next_shape p.other_extents p.plain_extents p.several p.leaf_entry p.entry_by p.bracketed p.along p.axis p.axis_ending p.full_call p.even_call p.second p.arange_call p.array_call p.abs_call p.pair_call p.where_call p.axis_call p.take_call p.transpose_call p.broadcast_call p.stencil_call p.apply_call p.called p.enclosed p.atom p.part p.step p.sliced p.placed p.item p.items p.casting p.reshaping p.transposing p.reducing p.method p.indexing p.suffixes p.postfix p.power p.unary p.level p.expression p.parse h.assigned h.printing h.loading h.saving h.bound h.looping h.binding h.updating h.putting h.named h.head
returns-clause-no_call_of_turned c r k = none_is _ (sym (head_reached (word Print ∷ sign LeftParenthesis ∷ t.name (codes "x") ∷ sign Dot ∷ t.name (codes "T") ∷ sign LeftParenthesis ∷ sign RightParenthesis ∷ sign RightParenthesis ∷ []) r k))

pub returns-clause-no_copy_without_call : goal.returns-clause-no_copy_without_call
unfolding method_of p.same_kind p.same_word p.eat p.expect p.eat_word p.expect_word p.low p.element_type p.named_type p.dtype p.ending p.a_word p.more p.members p.extents p.empty p.next p.last p.other_members p.filled_tuple p.tuple_shape p.shape p.next_shape p.other_extents p.plain_extents p.several p.leaf_entry p.entry_by p.bracketed p.along p.axis p.axis_ending p.full_call p.even_call p.second p.arange_call p.array_call p.abs_call p.pair_call p.where_call p.axis_call p.take_call p.transpose_call p.broadcast_call p.stencil_call p.apply_call p.called p.enclosed p.atom p.part p.step p.sliced p.placed p.item p.items p.casting p.reshaping p.transposing p.reducing p.method p.indexing p.suffixes p.postfix p.power p.unary p.level p.expression p.parse h.assigned h.printing h.loading h.saving h.bound h.looping h.binding h.updating h.putting h.named h.head
returns-clause-no_copy_without_call c r k = none_is _ (sym (head_reached (word Print ∷ sign LeftParenthesis ∷ t.name (codes "x") ∷ sign Dot ∷ t.name (codes "copy") ∷ sign RightParenthesis ∷ []) r k))

pub returns-clause-no_named_type : goal.returns-clause-no_named_type
unfolding method_of p.same_kind p.same_word p.eat p.expect p.eat_word p.expect_word p.low p.element_type p.named_type p.dtype p.ending p.a_word p.more p.members p.extents p.empty p.next p.last p.other_members p.filled_tuple p.tuple_shape p.shape p.next_shape p.other_extents p.plain_extents p.several p.leaf_entry p.entry_by p.bracketed p.along p.axis p.axis_ending p.full_call p.even_call p.second p.arange_call p.array_call p.abs_call p.pair_call p.where_call p.axis_call p.take_call p.transpose_call p.broadcast_call p.stencil_call p.apply_call p.called p.enclosed p.atom p.part p.step p.sliced p.placed p.item p.items p.casting p.reshaping p.transposing p.reducing p.method p.indexing p.suffixes p.postfix p.power p.unary p.level p.expression p.parse h.assigned h.printing h.loading h.saving h.bound h.looping h.binding h.updating h.putting h.named h.head
returns-clause-no_named_type c r k = none_is _ (sym (head_reached (word Print ∷ sign LeftParenthesis ∷ t.name (codes "x") ∷ sign Dot ∷ t.name (codes "astype") ∷ sign LeftParenthesis ∷ word Dtype ∷ sign Equal ∷ element Int8 ∷ sign RightParenthesis ∷ sign RightParenthesis ∷ []) r k))

pub returns-clause-no_extents : goal.returns-clause-no_extents
unfolding method_of p.same_kind p.same_word p.eat p.expect p.eat_word p.expect_word p.low p.element_type p.named_type p.dtype p.ending p.a_word p.more p.members p.extents p.empty p.next p.last p.other_members p.filled_tuple p.tuple_shape p.shape p.next_shape p.other_extents p.plain_extents p.several p.leaf_entry p.entry_by p.bracketed p.along p.axis p.axis_ending p.full_call p.even_call p.second p.arange_call p.array_call p.abs_call p.pair_call p.where_call p.axis_call p.take_call p.transpose_call p.broadcast_call p.stencil_call p.apply_call p.called p.enclosed p.atom p.part p.step p.sliced p.placed p.item p.items p.casting p.reshaping p.transposing p.reducing p.method p.indexing p.suffixes p.postfix p.power p.unary p.level p.expression p.parse h.assigned h.printing h.loading h.saving h.bound h.looping h.binding h.updating h.putting h.named h.head
returns-clause-no_extents c r k = none_is _ (sym (head_reached (word Print ∷ sign LeftParenthesis ∷ t.name (codes "x") ∷ sign Dot ∷ t.name (codes "reshape") ∷ sign LeftParenthesis ∷ sign RightParenthesis ∷ sign RightParenthesis ∷ []) r k))

pub returns-clause-no_two_axes : goal.returns-clause-no_two_axes
unfolding method_of p.same_kind p.same_word p.eat p.expect p.eat_word p.expect_word p.low p.element_type p.named_type p.dtype p.ending p.a_word p.more p.members p.extents p.empty p.next p.last p.other_members p.filled_tuple p.tuple_shape p.shape p.next_shape p.other_extents p.plain_extents p.several p.leaf_entry p.entry_by p.bracketed p.along p.axis p.axis_ending p.full_call p.even_call p.second p.arange_call p.array_call p.abs_call p.pair_call p.where_call p.axis_call p.take_call p.transpose_call p.broadcast_call p.stencil_call p.apply_call p.called p.enclosed p.atom p.part p.step p.sliced p.placed p.item p.items p.casting p.reshaping p.transposing p.reducing p.method p.indexing p.suffixes p.postfix p.power p.unary p.level p.expression p.parse h.assigned h.printing h.loading h.saving h.bound h.looping h.binding h.updating h.putting h.named h.head
returns-clause-no_two_axes c r k = none_is _ (sym (head_reached (word Print ∷ sign LeftParenthesis ∷ t.name (codes "x") ∷ sign Dot ∷ function (Reduce Sum) ∷ sign LeftParenthesis ∷ t.number 0 ∷ sign Comma ∷ t.number 1 ∷ sign RightParenthesis ∷ sign RightParenthesis ∷ []) r k))

pub returns-clause-no_take : goal.returns-clause-no_take
unfolding method_of p.same_kind p.same_word p.eat p.expect p.eat_word p.expect_word p.low p.element_type p.named_type p.dtype p.ending p.a_word p.more p.members p.extents p.empty p.next p.last p.other_members p.filled_tuple p.tuple_shape p.shape p.next_shape p.other_extents p.plain_extents p.several p.leaf_entry p.entry_by p.bracketed p.along p.axis p.axis_ending p.full_call p.even_call p.second p.arange_call p.array_call p.abs_call p.pair_call p.where_call p.axis_call p.take_call p.transpose_call p.broadcast_call p.stencil_call p.apply_call p.called p.enclosed p.atom p.part p.step p.sliced p.placed p.item p.items p.casting p.reshaping p.transposing p.reducing p.method p.indexing p.suffixes p.postfix p.power p.unary p.level p.expression p.parse h.assigned h.printing h.loading h.saving h.bound h.looping h.binding h.updating h.putting h.named h.head
returns-clause-no_take c r k = none_is _ (sym (head_reached (word Print ∷ sign LeftParenthesis ∷ t.name (codes "x") ∷ sign Dot ∷ function Take ∷ sign LeftParenthesis ∷ t.name (codes "i") ∷ sign RightParenthesis ∷ sign RightParenthesis ∷ []) r k))

pub returns-clause-no_other : goal.returns-clause-no_other
unfolding method_of p.same_kind p.same_word p.eat p.expect p.eat_word p.expect_word p.low p.element_type p.named_type p.dtype p.ending p.a_word p.more p.members p.extents p.empty p.next p.last p.other_members p.filled_tuple p.tuple_shape p.shape p.next_shape p.other_extents p.plain_extents p.several p.leaf_entry p.entry_by p.bracketed p.along p.axis p.axis_ending p.full_call p.even_call p.second p.arange_call p.array_call p.abs_call p.pair_call p.where_call p.axis_call p.take_call p.transpose_call p.broadcast_call p.stencil_call p.apply_call p.called p.enclosed p.atom p.part p.step p.sliced p.placed p.item p.items p.casting p.reshaping p.transposing p.reducing p.method p.indexing p.suffixes p.postfix p.power p.unary p.level p.expression p.parse h.assigned h.printing h.loading h.saving h.bound h.looping h.binding h.updating h.putting h.named h.head
returns-clause-no_other c r k = none_is _ (sym (head_reached (word Print ∷ sign LeftParenthesis ∷ t.name (codes "x") ∷ sign Dot ∷ t.name (codes "t") ∷ sign RightParenthesis ∷ []) r k))

pub returns-clause-no_number : goal.returns-clause-no_number
unfolding method_of p.same_kind p.same_word p.eat p.expect p.eat_word p.expect_word p.low p.element_type p.named_type p.dtype p.ending p.a_word p.more p.members p.extents p.empty p.next p.last p.other_members p.filled_tuple p.tuple_shape p.shape p.next_shape p.other_extents p.plain_extents p.several p.leaf_entry p.entry_by p.bracketed p.along p.axis p.axis_ending p.full_call p.even_call p.second p.arange_call p.array_call p.abs_call p.pair_call p.where_call p.axis_call p.take_call p.transpose_call p.broadcast_call p.stencil_call p.apply_call p.called p.enclosed p.atom p.part p.step p.sliced p.placed p.item p.items p.casting p.reshaping p.transposing p.reducing p.method p.indexing p.suffixes p.postfix p.power p.unary p.level p.expression p.parse h.assigned h.printing h.loading h.saving h.bound h.looping h.binding h.updating h.putting h.named h.head
returns-clause-no_number c r k = none_is _ (sym (head_reached (word Print ∷ sign LeftParenthesis ∷ t.name (codes "x") ∷ sign Dot ∷ t.number 0 ∷ sign RightParenthesis ∷ []) r k))
