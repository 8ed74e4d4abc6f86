use Rattle.std.proofs.Common.{[], ◌∷◌, codes, refl, sym}
use Rattle.lg_lex.specs.declared.tokens.TokenKind.TheVariants.{DoubleStarEqual, Equal, LeftParenthesis, Plus, PlusEqual, RightParenthesis}
use Rattle.lg_tree.specs.declared.kinds.Arith.TheVariants.{Add, Pow}
use Rattle.lg_parse.specs.declared.operators.Operator.TheVariants.{Each}
use Rattle.lg_parse.specs.declared.words.Word.TheVariants.{For, In, Range}
use Rattle.lg_parse.specs.Expressions.{uncompared, tightest, single, joined, unsigned, alone, bare, a_number, a_name, a_place, last_item}
use Rattle.lg_parse.specs.Statements.{an_update, a_put, an_update_at, a_load, a_save, a_loop_to, a_loop}
use Rattle.lg_parse.specs.Terminal.{word, sign}
use Rattle.lg_parse.specs.Terminal as t
use Rattle.lg_parse.specs.Methods.{method_of}
use Rattle.lg_parse.specs.Parsing as p
use Rattle.lg_parse.specs.ParsingHeads as h
use Rattle.lg_parse.proofs.EndingLemmas.{none_is, left_is}
use Rattle.lg_parse.proofs.HeadLemmas.{head_reached}
use Rattle.lg_parse.proofs.examples.heads_by_example.Goals as goal

pub returns-clause-update : goal.returns-clause-update
returns-clause-update c = an_update (codes "a") PlusEqual Add refl (uncompared (single (single (single (single (single (single (tightest (unsigned (alone (bare (a_number 1))))))))))))

pub returns-clause-put : goal.returns-clause-put
returns-clause-put c = a_put (codes "a") (last_item (a_place (uncompared (single (single (single (single (single (single (tightest (unsigned (alone (bare (a_number 0)))))))))))))) (uncompared (single (single (single (single (single (single (tightest (unsigned (alone (bare (a_number 1))))))))))))

pub returns-clause-update_at : goal.returns-clause-update_at
returns-clause-update_at c = an_update_at (codes "a") PlusEqual Add refl (last_item (a_place (uncompared (single (single (single (single (single (single (tightest (unsigned (alone (bare (a_number 0)))))))))))))) (uncompared (single (single (single (single (single (single (tightest (unsigned (alone (bare (a_number 1))))))))))))

pub returns-clause-loop_to : goal.returns-clause-loop_to
returns-clause-loop_to c = a_loop_to (codes "i") (uncompared (single (single (single (single (single (single (tightest (unsigned (alone (bare (a_number 3))))))))))))

pub returns-clause-loop_from : goal.returns-clause-loop_from
returns-clause-loop_from c = a_loop (codes "i") (uncompared (single (single (single (single (single (single (tightest (unsigned (alone (bare (a_number 1)))))))))))) (uncompared (single (single (single (single (single (single (tightest (unsigned (alone (bare (a_name (codes "n")))))))))))))

pub returns-clause-load : goal.returns-clause-load
returns-clause-load c = a_load (codes "a") (codes "k")

pub returns-clause-save : goal.returns-clause-save
returns-clause-save c = a_save (codes "k") (uncompared (single (single (single (single (single (single (tightest (unsigned (alone (bare (a_name (codes "a")))))))))))))

pub returns-clause-power : goal.returns-clause-power
returns-clause-power c = an_update (codes "a") DoubleStarEqual Pow refl (uncompared (single (single (single (single (single (single (tightest (unsigned (alone (bare (a_number 2))))))))))))

pub returns-clause-save_sum : goal.returns-clause-save_sum
returns-clause-save_sum c = a_save (codes "k") (uncompared (single (single (single (single (joined Plus (Each Add) refl (single (single (tightest (unsigned (alone (bare (a_name (codes "a")))))))) (single (tightest (unsigned (alone (bare (a_name (codes "b")))))))))))))

pub returns-clause-no_no_colon : goal.returns-clause-no_no_colon
unfolding method_of p.same_kind p.same_word p.eat p.expect p.eat_word p.expect_word p.low p.element_type p.named_type p.dtype p.ending p.a_word p.more p.members p.extents p.empty p.next p.last p.other_members p.filled_tuple p.tuple_shape p.shape p.next_shape p.other_extents p.plain_extents p.several p.leaf_entry p.entry_by p.bracketed p.along p.axis p.axis_ending p.full_call p.even_call p.second p.arange_call p.array_call p.abs_call p.pair_call p.where_call p.axis_call p.take_call p.transpose_call p.broadcast_call p.stencil_call p.apply_call p.called p.enclosed p.atom p.part p.step p.sliced p.placed p.item p.items p.casting p.reshaping p.transposing p.reducing p.method p.indexing p.suffixes p.postfix p.power p.unary p.level p.expression p.parse h.assigned h.printing h.loading h.saving h.bound h.looping h.binding h.updating h.putting h.named h.head
returns-clause-no_no_colon c r k = none_is _ (sym (head_reached (word For ∷ t.name (codes "i") ∷ word In ∷ word Range ∷ sign LeftParenthesis ∷ t.number 3 ∷ sign RightParenthesis ∷ []) r k))

pub returns-clause-no_behind : goal.returns-clause-no_behind
unfolding method_of p.same_kind p.same_word p.eat p.expect p.eat_word p.expect_word p.low p.element_type p.named_type p.dtype p.ending p.a_word p.more p.members p.extents p.empty p.next p.last p.other_members p.filled_tuple p.tuple_shape p.shape p.next_shape p.other_extents p.plain_extents p.several p.leaf_entry p.entry_by p.bracketed p.along p.axis p.axis_ending p.full_call p.even_call p.second p.arange_call p.array_call p.abs_call p.pair_call p.where_call p.axis_call p.take_call p.transpose_call p.broadcast_call p.stencil_call p.apply_call p.called p.enclosed p.atom p.part p.step p.sliced p.placed p.item p.items p.casting p.reshaping p.transposing p.reducing p.method p.indexing p.suffixes p.postfix p.power p.unary p.level p.expression p.parse h.assigned h.printing h.loading h.saving h.bound h.looping h.binding h.updating h.putting h.named h.head
returns-clause-no_behind c r k = left_is _ _ _ _ (sym (head_reached (t.name (codes "a") ∷ sign Equal ∷ t.name (codes "b") ∷ t.name (codes "c") ∷ []) r k))
