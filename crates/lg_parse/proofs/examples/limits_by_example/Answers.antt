use Rattle.std.proofs.Common.{◌≤◌, [], ◌∷◌, refl, sym, arith}
use Rattle.std.proofs.lemmas.Bool.{leb-true}
use Rattle.lg_lex.specs.declared.tokens.TokenKind.TheVariants.{LeftParenthesis, RightParenthesis}
use Rattle.lg_tree.specs.Tree.{number, print}
use Rattle.lg_tree.specs.Heads.{whole, head_height}
use Rattle.lg_parse.specs.declared.words.Word.TheVariants.{Print}
use Rattle.lg_parse.specs.Examples.{many, nested, negated, negative}
use Rattle.lg_parse.specs.Methods.{method_of}
use Rattle.lg_parse.specs.Terminal.{word}
use Rattle.lg_parse.specs.Terminal as t
use Rattle.lg_parse.specs.Parsing as p
use Rattle.lg_parse.specs.ParsingHeads as h
use Rattle.lg_parse.proofs.EndingLemmas.{none_is}
use Rattle.lg_parse.proofs.HeadLemmas.{head_found, head_reached}
use Rattle.lg_parse.proofs.LimitLemmas.{kept}
use Rattle.lg_parse.proofs.examples.limits_by_example.Goals as goal

pub returns-clause-deepest : goal.returns-clause-deepest
unfolding method_of p.same_kind p.same_word p.eat p.expect p.eat_word p.expect_word p.low p.element_type p.named_type p.dtype p.ending p.a_word p.more p.members p.extents p.empty p.next p.last p.other_members p.filled_tuple p.tuple_shape p.shape p.next_shape p.other_extents p.plain_extents p.several p.leaf_entry p.entry_by p.bracketed p.along p.axis p.axis_ending p.full_call p.even_call p.second p.arange_call p.array_call p.abs_call p.pair_call p.where_call p.axis_call p.take_call p.transpose_call p.broadcast_call p.stencil_call p.apply_call p.called p.enclosed p.atom p.part p.step p.sliced p.placed p.item p.items p.casting p.reshaping p.transposing p.reducing p.method p.indexing p.suffixes p.postfix p.power p.unary p.level p.expression p.parse h.assigned h.printing h.loading h.saving h.bound h.looping h.binding h.updating h.putting h.named h.head
returns-clause-deepest c = record {
  spelled = head_found (nested 64) (whole (print (number 1))) refl;
  shallow = kept (nested 64) refl;
  low = omega arith;
}

pub returns-clause-too_deep : goal.returns-clause-too_deep
returns-clause-too_deep c r k =
    let deep : 65 ≤ 64 = k.shallow (word Print ∷ many 65 LeftParenthesis []) (t.number 1 ∷ many 65 RightParenthesis []) refl in
    omega arith

pub returns-clause-highest : goal.returns-clause-highest
unfolding method_of p.same_kind p.same_word p.eat p.expect p.eat_word p.expect_word p.low p.element_type p.named_type p.dtype p.ending p.a_word p.more p.members p.extents p.empty p.next p.last p.other_members p.filled_tuple p.tuple_shape p.shape p.next_shape p.other_extents p.plain_extents p.several p.leaf_entry p.entry_by p.bracketed p.along p.axis p.axis_ending p.full_call p.even_call p.second p.arange_call p.array_call p.abs_call p.pair_call p.where_call p.axis_call p.take_call p.transpose_call p.broadcast_call p.stencil_call p.apply_call p.called p.enclosed p.atom p.part p.step p.sliced p.placed p.item p.items p.casting p.reshaping p.transposing p.reducing p.method p.indexing p.suffixes p.postfix p.power p.unary p.level p.expression p.parse h.assigned h.printing h.loading h.saving h.bound h.looping h.binding h.updating h.putting h.named h.head
returns-clause-highest c = record {
  spelled = head_found (negated 200) (whole (print (negative 200))) refl;
  shallow = kept (negated 200) refl;
  low = leb-true (head_height (whole (print (negative 200)))) 200 refl;
}

pub returns-clause-too_high : goal.returns-clause-too_high
unfolding method_of p.same_kind p.same_word p.eat p.expect p.eat_word p.expect_word p.low p.element_type p.named_type p.dtype p.ending p.a_word p.more p.members p.extents p.empty p.next p.last p.other_members p.filled_tuple p.tuple_shape p.shape p.next_shape p.other_extents p.plain_extents p.several p.leaf_entry p.entry_by p.bracketed p.along p.axis p.axis_ending p.full_call p.even_call p.second p.arange_call p.array_call p.abs_call p.pair_call p.where_call p.axis_call p.take_call p.transpose_call p.broadcast_call p.stencil_call p.apply_call p.called p.enclosed p.atom p.part p.step p.sliced p.placed p.item p.items p.casting p.reshaping p.transposing p.reducing p.method p.indexing p.suffixes p.postfix p.power p.unary p.level p.expression p.parse h.assigned h.printing h.loading h.saving h.bound h.looping h.binding h.updating h.putting h.named h.head
returns-clause-too_high c r k = none_is _ (sym (head_reached (negated 201) r k))
