use Rattle.std.proofs.Common.{[], ◌∷◌, codes, refl, sym}
use Rattle.lg_lex.specs.declared.tokens.TokenKind.TheVariants.{Comma, Equal, LeftBracket, LeftParenthesis, Plus, RightBracket, RightParenthesis}
use Rattle.lg_tree.specs.declared.kinds.Arith.TheVariants.{Add}
use Rattle.lg_parse.specs.declared.operators.Operator.TheVariants.{Each}
use Rattle.lg_parse.specs.declared.words.Function.TheVariants.{Array, Zeros}
use Rattle.lg_parse.specs.declared.words.Word.TheVariants.{Print}
use Rattle.lg_parse.specs.Expressions.{uncompared, tightest, single, joined, unsigned, alone, bare, a_number, enclosed, a_call, a_full, some_zeros, an_array, one_extent, no_extent, a_tuple, no_members, next_member, a_list, no_entries, last_entry, next_entry, inner_list, one_entry}
use Rattle.lg_parse.specs.Statements.{a_bind}
use Rattle.lg_parse.specs.Types.{no_type}
use Rattle.lg_parse.specs.Terminal.{word, function, sign}
use Rattle.lg_parse.specs.Terminal as t
use Rattle.lg_parse.specs.Methods.{method_of}
use Rattle.lg_parse.specs.Parsing as p
use Rattle.lg_parse.specs.ParsingHeads as h
use Rattle.lg_parse.proofs.EndingLemmas.{none_is}
use Rattle.lg_parse.proofs.HeadLemmas.{head_reached}
use Rattle.lg_parse.proofs.examples.shapes_by_example.Goals as goal

pub returns-clause-one : goal.returns-clause-one
returns-clause-one c = a_bind (codes "x") (uncompared (single (single (single (single (single (single (tightest (unsigned (alone (bare (a_call (some_zeros (one_extent (uncompared (single (single (single (single (single (single (tightest (unsigned (alone (bare (enclosed (uncompared (single (single (single (single (single (single (tightest (unsigned (alone (bare (a_number 3))))))))))))))))))))))))) no_type)))))))))))))

pub returns-clause-tuple_of_one : goal.returns-clause-tuple_of_one
returns-clause-tuple_of_one c = a_bind (codes "x") (uncompared (single (single (single (single (single (single (tightest (unsigned (alone (bare (a_call (some_zeros (a_tuple (uncompared (single (single (single (single (single (single (tightest (unsigned (alone (bare (a_number 3)))))))))))) no_members) no_type)))))))))))))

pub returns-clause-empty : goal.returns-clause-empty
returns-clause-empty c = a_bind (codes "x") (uncompared (single (single (single (single (single (single (tightest (unsigned (alone (bare (a_call (some_zeros no_extent no_type)))))))))))))

pub returns-clause-two : goal.returns-clause-two
returns-clause-two c = a_bind (codes "x") (uncompared (single (single (single (single (single (single (tightest (unsigned (alone (bare (a_call (some_zeros (a_tuple (uncompared (single (single (single (single (single (single (tightest (unsigned (alone (bare (a_number 2)))))))))))) (next_member (uncompared (single (single (single (single (single (single (tightest (unsigned (alone (bare (a_number 3)))))))))))) no_members)) no_type)))))))))))))

pub returns-clause-goes_on : goal.returns-clause-goes_on
returns-clause-goes_on c = a_bind (codes "x") (uncompared (single (single (single (single (single (single (tightest (unsigned (alone (bare (a_call (a_full (one_extent (uncompared (single (single (single (single (joined Plus (Each Add) refl (single (single (tightest (unsigned (alone (bare (enclosed (uncompared (single (single (single (single (single (single (tightest (unsigned (alone (bare (a_number 3))))))))))))))))))) (single (tightest (unsigned (alone (bare (a_number 1))))))))))))) (uncompared (single (single (single (single (single (single (tightest (unsigned (alone (bare (a_number 0)))))))))))) no_type)))))))))))))

pub returns-clause-nested : goal.returns-clause-nested
returns-clause-nested c = a_bind (codes "x") (uncompared (single (single (single (single (single (single (tightest (unsigned (alone (bare (a_call (an_array (a_list (next_entry (inner_list (a_list (next_entry (one_entry (uncompared (single (single (single (single (single (single (tightest (unsigned (alone (bare (a_number 1))))))))))))) (last_entry (one_entry (uncompared (single (single (single (single (single (single (tightest (unsigned (alone (bare (a_number 2))))))))))))))))) (last_entry (inner_list (a_list no_entries))))) no_type)))))))))))))

pub returns-clause-list_comma : goal.returns-clause-list_comma
returns-clause-list_comma c = a_bind (codes "x") (uncompared (single (single (single (single (single (single (tightest (unsigned (alone (bare (a_call (an_array (a_list (next_entry (one_entry (uncompared (single (single (single (single (single (single (tightest (unsigned (alone (bare (a_number 1))))))))))))) no_entries)) no_type)))))))))))))

pub returns-clause-no_no_tuple : goal.returns-clause-no_no_tuple
unfolding method_of p.same_kind p.same_word p.eat p.expect p.eat_word p.expect_word p.low p.element_type p.named_type p.dtype p.ending p.a_word p.more p.members p.extents p.empty p.next p.last p.other_members p.filled_tuple p.tuple_shape p.shape p.next_shape p.other_extents p.plain_extents p.several p.leaf_entry p.entry_by p.bracketed p.along p.axis p.axis_ending p.full_call p.even_call p.second p.arange_call p.array_call p.abs_call p.pair_call p.where_call p.axis_call p.take_call p.transpose_call p.broadcast_call p.stencil_call p.apply_call p.called p.enclosed p.atom p.part p.step p.sliced p.placed p.item p.items p.casting p.reshaping p.transposing p.reducing p.method p.indexing p.suffixes p.postfix p.power p.unary p.level p.expression p.parse h.assigned h.printing h.loading h.saving h.bound h.looping h.binding h.updating h.putting h.named h.head
returns-clause-no_no_tuple c r k = none_is _ (sym (head_reached (t.name (codes "x") ∷ sign Equal ∷ sign LeftParenthesis ∷ t.number 3 ∷ sign Comma ∷ t.number 4 ∷ sign RightParenthesis ∷ []) r k))

pub returns-clause-no_comma_alone : goal.returns-clause-no_comma_alone
unfolding method_of p.same_kind p.same_word p.eat p.expect p.eat_word p.expect_word p.low p.element_type p.named_type p.dtype p.ending p.a_word p.more p.members p.extents p.empty p.next p.last p.other_members p.filled_tuple p.tuple_shape p.shape p.next_shape p.other_extents p.plain_extents p.several p.leaf_entry p.entry_by p.bracketed p.along p.axis p.axis_ending p.full_call p.even_call p.second p.arange_call p.array_call p.abs_call p.pair_call p.where_call p.axis_call p.take_call p.transpose_call p.broadcast_call p.stencil_call p.apply_call p.called p.enclosed p.atom p.part p.step p.sliced p.placed p.item p.items p.casting p.reshaping p.transposing p.reducing p.method p.indexing p.suffixes p.postfix p.power p.unary p.level p.expression p.parse h.assigned h.printing h.loading h.saving h.bound h.looping h.binding h.updating h.putting h.named h.head
returns-clause-no_comma_alone c r k = none_is _ (sym (head_reached (word Print ∷ sign LeftParenthesis ∷ function Zeros ∷ sign LeftParenthesis ∷ sign LeftParenthesis ∷ sign Comma ∷ sign RightParenthesis ∷ sign RightParenthesis ∷ sign RightParenthesis ∷ []) r k))

pub returns-clause-no_two_commas : goal.returns-clause-no_two_commas
unfolding method_of p.same_kind p.same_word p.eat p.expect p.eat_word p.expect_word p.low p.element_type p.named_type p.dtype p.ending p.a_word p.more p.members p.extents p.empty p.next p.last p.other_members p.filled_tuple p.tuple_shape p.shape p.next_shape p.other_extents p.plain_extents p.several p.leaf_entry p.entry_by p.bracketed p.along p.axis p.axis_ending p.full_call p.even_call p.second p.arange_call p.array_call p.abs_call p.pair_call p.where_call p.axis_call p.take_call p.transpose_call p.broadcast_call p.stencil_call p.apply_call p.called p.enclosed p.atom p.part p.step p.sliced p.placed p.item p.items p.casting p.reshaping p.transposing p.reducing p.method p.indexing p.suffixes p.postfix p.power p.unary p.level p.expression p.parse h.assigned h.printing h.loading h.saving h.bound h.looping h.binding h.updating h.putting h.named h.head
returns-clause-no_two_commas c r k = none_is _ (sym (head_reached (word Print ∷ sign LeftParenthesis ∷ function Array ∷ sign LeftParenthesis ∷ sign LeftBracket ∷ t.number 1 ∷ sign Comma ∷ sign Comma ∷ sign RightBracket ∷ sign RightParenthesis ∷ sign RightParenthesis ∷ []) r k))

pub returns-clause-no_comma : goal.returns-clause-no_comma
unfolding method_of p.same_kind p.same_word p.eat p.expect p.eat_word p.expect_word p.low p.element_type p.named_type p.dtype p.ending p.a_word p.more p.members p.extents p.empty p.next p.last p.other_members p.filled_tuple p.tuple_shape p.shape p.next_shape p.other_extents p.plain_extents p.several p.leaf_entry p.entry_by p.bracketed p.along p.axis p.axis_ending p.full_call p.even_call p.second p.arange_call p.array_call p.abs_call p.pair_call p.where_call p.axis_call p.take_call p.transpose_call p.broadcast_call p.stencil_call p.apply_call p.called p.enclosed p.atom p.part p.step p.sliced p.placed p.item p.items p.casting p.reshaping p.transposing p.reducing p.method p.indexing p.suffixes p.postfix p.power p.unary p.level p.expression p.parse h.assigned h.printing h.loading h.saving h.bound h.looping h.binding h.updating h.putting h.named h.head
returns-clause-no_comma c r k = none_is _ (sym (head_reached (word Print ∷ sign LeftParenthesis ∷ function Array ∷ sign LeftParenthesis ∷ sign LeftBracket ∷ t.number 1 ∷ t.number 2 ∷ sign RightBracket ∷ sign RightParenthesis ∷ sign RightParenthesis ∷ []) r k))
