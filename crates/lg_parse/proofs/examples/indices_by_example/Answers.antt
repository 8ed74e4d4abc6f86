use Rattle.std.proofs.Common.{[], ◌∷◌, codes, refl, sym}
use Rattle.lg_lex.specs.declared.tokens.TokenKind.TheVariants.{Colon, Comma, LeftBracket, LeftParenthesis, Plus, RightBracket, RightParenthesis}
use Rattle.lg_tree.specs.declared.kinds.Arith.TheVariants.{Add}
use Rattle.lg_parse.specs.declared.operators.Operator.TheVariants.{Each}
use Rattle.lg_parse.specs.declared.words.Word.TheVariants.{Print}
use Rattle.lg_parse.specs.Expressions.{uncompared, tightest, single, joined, unsigned, alone, bare, suffixed, a_number, a_name, indexed, a_place, a_slice, a_stepped, an_axis_more, the_others, no_part, a_part, nothing, last_item, next_item}
use Rattle.lg_parse.specs.Statements.{a_print}
use Rattle.lg_parse.specs.Terminal.{word, sign}
use Rattle.lg_parse.specs.Terminal as t
use Rattle.lg_parse.specs.Methods.{method_of}
use Rattle.lg_parse.specs.Parsing as p
use Rattle.lg_parse.specs.ParsingHeads as h
use Rattle.lg_parse.proofs.EndingLemmas.{none_is}
use Rattle.lg_parse.proofs.HeadLemmas.{head_reached}
use Rattle.lg_parse.proofs.examples.indices_by_example.Goals as goal

pub returns-clause-slice : goal.returns-clause-slice
returns-clause-slice c = a_print (uncompared (single (single (single (single (single (single (tightest (unsigned (alone (suffixed (bare (a_name (codes "a"))) (indexed (last_item (a_slice (a_part (uncompared (single (single (single (single (single (single (tightest (unsigned (alone (bare (a_number 1))))))))))))) (a_part (uncompared (single (single (single (single (single (single (tightest (unsigned (alone (bare (a_number 2)))))))))))))))))))))))))))

pub returns-clause-step : goal.returns-clause-step
returns-clause-step c = a_print (uncompared (single (single (single (single (single (single (tightest (unsigned (alone (suffixed (bare (a_name (codes "a"))) (indexed (last_item (a_stepped no_part no_part (a_part (uncompared (single (single (single (single (single (single (tightest (unsigned (alone (bare (a_number 2)))))))))))))))))))))))))))

pub returns-clause-all : goal.returns-clause-all
returns-clause-all c = a_print (uncompared (single (single (single (single (single (single (tightest (unsigned (alone (suffixed (bare (a_name (codes "a"))) (indexed (last_item (a_slice no_part no_part))))))))))))))

pub returns-clause-mixed : goal.returns-clause-mixed
returns-clause-mixed c = a_print (uncompared (single (single (single (single (single (single (tightest (unsigned (alone (suffixed (bare (a_name (codes "a"))) (indexed (next_item an_axis_more (next_item the_others (next_item (a_place (uncompared (single (single (single (single (single (single (tightest (unsigned (alone (bare (a_number 1))))))))))))) nothing)))))))))))))))

pub returns-clause-twice : goal.returns-clause-twice
returns-clause-twice c = a_print (uncompared (single (single (single (single (single (single (tightest (unsigned (alone (suffixed (suffixed (bare (a_name (codes "a"))) (indexed (last_item (a_place (uncompared (single (single (single (single (single (single (tightest (unsigned (alone (bare (a_number 0)))))))))))))))) (indexed (last_item (a_place (uncompared (single (single (single (single (single (single (tightest (unsigned (alone (bare (a_number 1))))))))))))))))))))))))))

pub returns-clause-open_step : goal.returns-clause-open_step
returns-clause-open_step c = a_print (uncompared (single (single (single (single (single (single (tightest (unsigned (alone (suffixed (bare (a_name (codes "a"))) (indexed (last_item (a_stepped (a_part (uncompared (single (single (single (single (single (single (tightest (unsigned (alone (bare (a_number 1))))))))))))) (a_part (uncompared (single (single (single (single (single (single (tightest (unsigned (alone (bare (a_number 2))))))))))))) no_part))))))))))))))

pub returns-clause-bounds : goal.returns-clause-bounds
returns-clause-bounds c = a_print (uncompared (single (single (single (single (single (single (tightest (unsigned (alone (suffixed (bare (a_name (codes "a"))) (indexed (next_item (a_slice (a_part (uncompared (single (single (single (single (joined Plus (Each Add) refl (single (single (tightest (unsigned (alone (bare (a_name (codes "i")))))))) (single (tightest (unsigned (alone (bare (a_number 1))))))))))))) no_part) (last_item (a_slice no_part (a_part (uncompared (single (single (single (single (single (single (tightest (unsigned (alone (bare (a_number 2))))))))))))))))))))))))))))

pub returns-clause-no_empty : goal.returns-clause-no_empty
unfolding method_of p.same_kind p.same_word p.eat p.expect p.eat_word p.expect_word p.low p.element_type p.named_type p.dtype p.ending p.a_word p.more p.members p.extents p.empty p.next p.last p.other_members p.filled_tuple p.tuple_shape p.shape p.next_shape p.other_extents p.plain_extents p.several p.leaf_entry p.entry_by p.bracketed p.along p.axis p.axis_ending p.full_call p.even_call p.second p.arange_call p.array_call p.abs_call p.pair_call p.where_call p.axis_call p.take_call p.transpose_call p.broadcast_call p.stencil_call p.apply_call p.called p.enclosed p.atom p.part p.step p.sliced p.placed p.item p.items p.casting p.reshaping p.transposing p.reducing p.method p.indexing p.suffixes p.postfix p.power p.unary p.level p.expression p.parse h.assigned h.printing h.loading h.saving h.bound h.looping h.binding h.updating h.putting h.named h.head
returns-clause-no_empty c r k = none_is _ (sym (head_reached (word Print ∷ sign LeftParenthesis ∷ t.name (codes "a") ∷ sign LeftBracket ∷ sign RightBracket ∷ sign RightParenthesis ∷ []) r k))

pub returns-clause-no_two_commas : goal.returns-clause-no_two_commas
unfolding method_of p.same_kind p.same_word p.eat p.expect p.eat_word p.expect_word p.low p.element_type p.named_type p.dtype p.ending p.a_word p.more p.members p.extents p.empty p.next p.last p.other_members p.filled_tuple p.tuple_shape p.shape p.next_shape p.other_extents p.plain_extents p.several p.leaf_entry p.entry_by p.bracketed p.along p.axis p.axis_ending p.full_call p.even_call p.second p.arange_call p.array_call p.abs_call p.pair_call p.where_call p.axis_call p.take_call p.transpose_call p.broadcast_call p.stencil_call p.apply_call p.called p.enclosed p.atom p.part p.step p.sliced p.placed p.item p.items p.casting p.reshaping p.transposing p.reducing p.method p.indexing p.suffixes p.postfix p.power p.unary p.level p.expression p.parse h.assigned h.printing h.loading h.saving h.bound h.looping h.binding h.updating h.putting h.named h.head
returns-clause-no_two_commas c r k = none_is _ (sym (head_reached (word Print ∷ sign LeftParenthesis ∷ t.name (codes "a") ∷ sign LeftBracket ∷ t.number 1 ∷ sign Comma ∷ sign Comma ∷ sign RightBracket ∷ sign RightParenthesis ∷ []) r k))

pub returns-clause-no_third_colon : goal.returns-clause-no_third_colon
unfolding method_of p.same_kind p.same_word p.eat p.expect p.eat_word p.expect_word p.low p.element_type p.named_type p.dtype p.ending p.a_word p.more p.members p.extents p.empty p.next p.last p.other_members p.filled_tuple p.tuple_shape p.shape p.next_shape p.other_extents p.plain_extents p.several p.leaf_entry p.entry_by p.bracketed p.along p.axis p.axis_ending p.full_call p.even_call p.second p.arange_call p.array_call p.abs_call p.pair_call p.where_call p.axis_call p.take_call p.transpose_call p.broadcast_call p.stencil_call p.apply_call p.called p.enclosed p.atom p.part p.step p.sliced p.placed p.item p.items p.casting p.reshaping p.transposing p.reducing p.method p.indexing p.suffixes p.postfix p.power p.unary p.level p.expression p.parse h.assigned h.printing h.loading h.saving h.bound h.looping h.binding h.updating h.putting h.named h.head
returns-clause-no_third_colon c r k = none_is _ (sym (head_reached (word Print ∷ sign LeftParenthesis ∷ t.name (codes "a") ∷ sign LeftBracket ∷ t.number 1 ∷ sign Colon ∷ t.number 2 ∷ sign Colon ∷ t.number 3 ∷ sign Colon ∷ t.number 4 ∷ sign RightBracket ∷ sign RightParenthesis ∷ []) r k))

pub returns-clause-no_comma_alone : goal.returns-clause-no_comma_alone
unfolding method_of p.same_kind p.same_word p.eat p.expect p.eat_word p.expect_word p.low p.element_type p.named_type p.dtype p.ending p.a_word p.more p.members p.extents p.empty p.next p.last p.other_members p.filled_tuple p.tuple_shape p.shape p.next_shape p.other_extents p.plain_extents p.several p.leaf_entry p.entry_by p.bracketed p.along p.axis p.axis_ending p.full_call p.even_call p.second p.arange_call p.array_call p.abs_call p.pair_call p.where_call p.axis_call p.take_call p.transpose_call p.broadcast_call p.stencil_call p.apply_call p.called p.enclosed p.atom p.part p.step p.sliced p.placed p.item p.items p.casting p.reshaping p.transposing p.reducing p.method p.indexing p.suffixes p.postfix p.power p.unary p.level p.expression p.parse h.assigned h.printing h.loading h.saving h.bound h.looping h.binding h.updating h.putting h.named h.head
returns-clause-no_comma_alone c r k = none_is _ (sym (head_reached (word Print ∷ sign LeftParenthesis ∷ t.name (codes "a") ∷ sign LeftBracket ∷ sign Comma ∷ sign RightBracket ∷ sign RightParenthesis ∷ []) r k))
