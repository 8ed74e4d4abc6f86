use Rattle.std.proofs.Common.{[], ◌∷◌, codes, sym}
use Rattle.lg_elem.specs.declared.dtype.DType.TheVariants.{Int8}
use Rattle.lg_lex.specs.declared.tokens.TokenKind.TheVariants.{Comma, Dot, LeftParenthesis, RightParenthesis}
use Rattle.lg_tree.specs.declared.kinds.Red.TheVariants.{Sum}
use Rattle.lg_parse.specs.declared.words.Word.TheVariants.{Print}
use Rattle.lg_parse.specs.Expressions.{uncompared, tightest, single, unsigned, alone, bare, suffixed, a_number, a_name, plain_axis, named_axis, turned, copied, flattened, cast, reshaped, reversed, transposed, reduced, reduced_along, one_extent, a_tuple, last_member, as_shape, side_by_side, last_extent}
use Rattle.lg_parse.specs.Statements.{a_print}
use Rattle.lg_parse.specs.Terminal.{word, sign}
use Rattle.lg_parse.specs.Terminal as t
use Rattle.lg_parse.specs.Methods.{method_of}
use Rattle.lg_parse.specs.Parsing as p
use Rattle.lg_parse.specs.ParsingHeads as h
use Rattle.lg_parse.proofs.EndingLemmas.{none_is}
use Rattle.lg_parse.proofs.HeadLemmas.{head_reached}
use Rattle.lg_parse.proofs.examples.methods_by_example.Goals as goal

pub returns-clause-several : goal.returns-clause-several
returns-clause-several c = a_print (uncompared (single (single (single (single (single (single (tightest (unsigned (alone (suffixed (bare (a_name (codes "x"))) (reshaped (side_by_side (uncompared (single (single (single (single (single (single (tightest (unsigned (alone (bare (a_number 2)))))))))))) (last_extent (uncompared (single (single (single (single (single (single (tightest (unsigned (alone (bare (a_number 3))))))))))))))))))))))))))

pub returns-clause-a_tuple : goal.returns-clause-a_tuple
returns-clause-a_tuple c = a_print (uncompared (single (single (single (single (single (single (tightest (unsigned (alone (suffixed (bare (a_name (codes "x"))) (reshaped (as_shape (a_tuple (uncompared (single (single (single (single (single (single (tightest (unsigned (alone (bare (a_number 2)))))))))))) (last_member (uncompared (single (single (single (single (single (single (tightest (unsigned (alone (bare (a_number 3)))))))))))))))))))))))))))

pub returns-clause-one : goal.returns-clause-one
returns-clause-one c = a_print (uncompared (single (single (single (single (single (single (tightest (unsigned (alone (suffixed (bare (a_name (codes "x"))) (reshaped (as_shape (one_extent (uncompared (single (single (single (single (single (single (tightest (unsigned (alone (bare (a_number 6))))))))))))))))))))))))))

pub returns-clause-turned : goal.returns-clause-turned
returns-clause-turned c = a_print (uncompared (single (single (single (single (single (single (tightest (unsigned (alone (suffixed (bare (a_name (codes "x"))) turned)))))))))))

pub returns-clause-reversed : goal.returns-clause-reversed
returns-clause-reversed c = a_print (uncompared (single (single (single (single (single (single (tightest (unsigned (alone (suffixed (bare (a_name (codes "x"))) reversed)))))))))))

pub returns-clause-sum_axis : goal.returns-clause-sum_axis
returns-clause-sum_axis c = a_print (uncompared (single (single (single (single (single (single (tightest (unsigned (alone (suffixed (bare (a_name (codes "x"))) (reduced_along Sum (named_axis (uncompared (single (single (single (single (single (single (tightest (unsigned (alone (bare (a_number 0)))))))))))))))))))))))))

pub returns-clause-sum_plain : goal.returns-clause-sum_plain
returns-clause-sum_plain c = a_print (uncompared (single (single (single (single (single (single (tightest (unsigned (alone (suffixed (bare (a_name (codes "x"))) (reduced_along Sum (plain_axis (uncompared (single (single (single (single (single (single (tightest (unsigned (alone (bare (a_number 0)))))))))))))))))))))))))

pub returns-clause-cast : goal.returns-clause-cast
returns-clause-cast c = a_print (uncompared (single (single (single (single (single (single (tightest (unsigned (alone (suffixed (bare (a_name (codes "x"))) (cast Int8))))))))))))

pub returns-clause-copy : goal.returns-clause-copy
returns-clause-copy c = a_print (uncompared (single (single (single (single (single (single (tightest (unsigned (alone (suffixed (bare (a_name (codes "copy"))) copied)))))))))))

pub returns-clause-flat : goal.returns-clause-flat
returns-clause-flat c = a_print (uncompared (single (single (single (single (single (single (tightest (unsigned (alone (suffixed (bare (a_name (codes "x"))) flattened)))))))))))

pub returns-clause-axes : goal.returns-clause-axes
returns-clause-axes c = a_print (uncompared (single (single (single (single (single (single (tightest (unsigned (alone (suffixed (bare (a_name (codes "x"))) (transposed (side_by_side (uncompared (single (single (single (single (single (single (tightest (unsigned (alone (bare (a_number 1)))))))))))) (last_extent (uncompared (single (single (single (single (single (single (tightest (unsigned (alone (bare (a_number 0))))))))))))))))))))))))))

pub returns-clause-sum_of_all : goal.returns-clause-sum_of_all
returns-clause-sum_of_all c = a_print (uncompared (single (single (single (single (single (single (tightest (unsigned (alone (suffixed (bare (a_name (codes "x"))) (reduced Sum))))))))))))

pub returns-clause-no_last_comma : goal.returns-clause-no_last_comma
unfolding method_of p.same_kind p.same_word p.eat p.expect p.eat_word p.expect_word p.low p.element_type p.named_type p.dtype p.ending p.a_word p.more p.members p.extents p.empty p.next p.last p.other_members p.filled_tuple p.tuple_shape p.shape p.next_shape p.other_extents p.plain_extents p.several p.leaf_entry p.entry_by p.bracketed p.along p.axis p.axis_ending p.full_call p.even_call p.second p.arange_call p.array_call p.abs_call p.pair_call p.where_call p.axis_call p.take_call p.transpose_call p.broadcast_call p.stencil_call p.apply_call p.called p.enclosed p.atom p.part p.step p.sliced p.placed p.item p.items p.casting p.reshaping p.transposing p.reducing p.method p.indexing p.suffixes p.postfix p.power p.unary p.level p.expression p.parse h.assigned h.printing h.loading h.saving h.bound h.looping h.binding h.updating h.putting h.named h.head
returns-clause-no_last_comma c r k = none_is _ (sym (head_reached (word Print ∷ sign LeftParenthesis ∷ t.name (codes "x") ∷ sign Dot ∷ t.name (codes "reshape") ∷ sign LeftParenthesis ∷ t.number 2 ∷ sign Comma ∷ t.number 3 ∷ sign Comma ∷ sign RightParenthesis ∷ sign RightParenthesis ∷ []) r k))
