use Rattle.std.proofs.Common.{[], ◌∷◌, codes, refl, sym}
use Rattle.lg_elem.specs.declared.kinds.Compare.TheVariants.{Lt}
use Rattle.lg_lex.specs.declared.tokens.TokenKind.TheVariants.{Ampersand, At, Bar, Circumflex, DoubleSlash, LeftParenthesis, LeftShift, Less, Minus, Percent, Plus, RightParenthesis}
use Rattle.lg_tree.specs.declared.kinds.Arith.TheVariants.{Add, Sub, FloorDiv, Rem, BitAnd, BitOr, BitXor, Shl}
use Rattle.lg_parse.specs.declared.operators.Operator.TheVariants.{Each, Matrix}
use Rattle.lg_parse.specs.declared.words.Word.TheVariants.{Print}
use Rattle.lg_parse.specs.Expressions.{uncompared, compared, tightest, single, joined, negative, inverted, unsigned, alone, raised, bare, a_number, a_name, enclosed}
use Rattle.lg_parse.specs.Statements.{a_print}
use Rattle.lg_parse.specs.Terminal.{word, sign}
use Rattle.lg_parse.specs.Terminal as t
use Rattle.lg_parse.specs.Methods.{method_of}
use Rattle.lg_parse.specs.Parsing as p
use Rattle.lg_parse.specs.ParsingHeads as h
use Rattle.lg_parse.proofs.EndingLemmas.{none_is}
use Rattle.lg_parse.proofs.HeadLemmas.{head_reached}
use Rattle.lg_parse.proofs.examples.operators_by_example.Goals as goal

pub returns-clause-minus_power : goal.returns-clause-minus_power
returns-clause-minus_power c = a_print (uncompared (single (single (single (single (single (single (tightest (negative (unsigned (raised (bare (a_number 2)) (unsigned (alone (bare (a_number 2)))))))))))))))

pub returns-clause-power_minus : goal.returns-clause-power_minus
returns-clause-power_minus c = a_print (uncompared (single (single (single (single (single (single (tightest (unsigned (raised (bare (a_number 2)) (negative (unsigned (alone (bare (a_number 1)))))))))))))))

pub returns-clause-powers : goal.returns-clause-powers
returns-clause-powers c = a_print (uncompared (single (single (single (single (single (single (tightest (unsigned (raised (bare (a_name (codes "a"))) (unsigned (raised (bare (a_name (codes "b"))) (unsigned (alone (bare (a_name (codes "c")))))))))))))))))

pub returns-clause-differences : goal.returns-clause-differences
returns-clause-differences c = a_print (uncompared (single (single (single (single (joined Minus (Each Sub) refl (joined Minus (Each Sub) refl (single (single (tightest (unsigned (alone (bare (a_name (codes "a")))))))) (single (tightest (unsigned (alone (bare (a_name (codes "b")))))))) (single (tightest (unsigned (alone (bare (a_name (codes "c")))))))))))))

pub returns-clause-parentheses : goal.returns-clause-parentheses
returns-clause-parentheses c = a_print (uncompared (single (single (single (single (joined Minus (Each Sub) refl (single (single (tightest (unsigned (alone (bare (a_name (codes "a")))))))) (single (tightest (unsigned (alone (bare (enclosed (uncompared (single (single (single (single (joined Minus (Each Sub) refl (single (single (tightest (unsigned (alone (bare (a_name (codes "b")))))))) (single (tightest (unsigned (alone (bare (a_name (codes "c")))))))))))))))))))))))))

pub returns-clause-product : goal.returns-clause-product
returns-clause-product c = a_print (uncompared (single (single (single (single (joined Plus (Each Add) refl (single (single (tightest (unsigned (alone (bare (a_name (codes "a")))))))) (joined At Matrix refl (single (tightest (unsigned (alone (bare (a_name (codes "b"))))))) (tightest (unsigned (alone (bare (a_name (codes "c")))))))))))))

pub returns-clause-levels : goal.returns-clause-levels
returns-clause-levels c = a_print (uncompared (joined Bar (Each BitOr) refl (single (single (single (single (single (single (tightest (unsigned (alone (bare (a_name (codes "a")))))))))))) (joined Circumflex (Each BitXor) refl (single (single (single (single (single (tightest (unsigned (alone (bare (a_name (codes "b"))))))))))) (joined Ampersand (Each BitAnd) refl (single (single (single (single (tightest (unsigned (alone (bare (a_name (codes "c")))))))))) (joined LeftShift (Each Shl) refl (single (single (single (tightest (unsigned (alone (bare (a_name (codes "a"))))))))) (single (single (tightest (unsigned (alone (bare (a_name (codes "b")))))))))))))

pub returns-clause-comparison : goal.returns-clause-comparison
returns-clause-comparison c = a_print (compared Less Lt refl (single (single (single (single (single (single (tightest (unsigned (alone (bare (a_name (codes "a")))))))))))) (single (single (single (single (joined Plus (Each Add) refl (single (single (tightest (unsigned (alone (bare (a_name (codes "b")))))))) (single (tightest (unsigned (alone (bare (a_number 1))))))))))))

pub returns-clause-twice : goal.returns-clause-twice
returns-clause-twice c = a_print (uncompared (single (single (single (single (single (single (tightest (inverted (negative (unsigned (alone (bare (a_name (codes "a")))))))))))))))

pub returns-clause-one_level : goal.returns-clause-one_level
returns-clause-one_level c = a_print (uncompared (single (single (single (single (single (joined Percent (Each Rem) refl (joined DoubleSlash (Each FloorDiv) refl (single (tightest (unsigned (alone (bare (a_name (codes "a"))))))) (tightest (unsigned (alone (bare (a_name (codes "b"))))))) (tightest (unsigned (alone (bare (a_name (codes "c")))))))))))))

pub returns-clause-no_chain : goal.returns-clause-no_chain
unfolding method_of p.same_kind p.same_word p.eat p.expect p.eat_word p.expect_word p.low p.element_type p.named_type p.dtype p.ending p.a_word p.more p.members p.extents p.empty p.next p.last p.other_members p.filled_tuple p.tuple_shape p.shape p.next_shape p.other_extents p.plain_extents p.several p.leaf_entry p.entry_by p.bracketed p.along p.axis p.axis_ending p.full_call p.even_call p.second p.arange_call p.array_call p.abs_call p.pair_call p.where_call p.axis_call p.take_call p.transpose_call p.broadcast_call p.stencil_call p.apply_call p.called p.enclosed p.atom p.part p.step p.sliced p.placed p.item p.items p.casting p.reshaping p.transposing p.reducing p.method p.indexing p.suffixes p.postfix p.power p.unary p.level p.expression p.parse h.assigned h.printing h.loading h.saving h.bound h.looping h.binding h.updating h.putting h.named h.head
returns-clause-no_chain c r k = none_is _ (sym (head_reached (word Print ∷ sign LeftParenthesis ∷ t.name (codes "a") ∷ sign Less ∷ t.name (codes "b") ∷ sign Less ∷ t.name (codes "c") ∷ sign RightParenthesis ∷ []) r k))

pub returns-clause-no_lone : goal.returns-clause-no_lone
unfolding method_of p.same_kind p.same_word p.eat p.expect p.eat_word p.expect_word p.low p.element_type p.named_type p.dtype p.ending p.a_word p.more p.members p.extents p.empty p.next p.last p.other_members p.filled_tuple p.tuple_shape p.shape p.next_shape p.other_extents p.plain_extents p.several p.leaf_entry p.entry_by p.bracketed p.along p.axis p.axis_ending p.full_call p.even_call p.second p.arange_call p.array_call p.abs_call p.pair_call p.where_call p.axis_call p.take_call p.transpose_call p.broadcast_call p.stencil_call p.apply_call p.called p.enclosed p.atom p.part p.step p.sliced p.placed p.item p.items p.casting p.reshaping p.transposing p.reducing p.method p.indexing p.suffixes p.postfix p.power p.unary p.level p.expression p.parse h.assigned h.printing h.loading h.saving h.bound h.looping h.binding h.updating h.putting h.named h.head
returns-clause-no_lone c r k = none_is _ (sym (head_reached (word Print ∷ sign LeftParenthesis ∷ t.name (codes "a") ∷ sign Plus ∷ sign RightParenthesis ∷ []) r k))

pub returns-clause-no_plus : goal.returns-clause-no_plus
unfolding method_of p.same_kind p.same_word p.eat p.expect p.eat_word p.expect_word p.low p.element_type p.named_type p.dtype p.ending p.a_word p.more p.members p.extents p.empty p.next p.last p.other_members p.filled_tuple p.tuple_shape p.shape p.next_shape p.other_extents p.plain_extents p.several p.leaf_entry p.entry_by p.bracketed p.along p.axis p.axis_ending p.full_call p.even_call p.second p.arange_call p.array_call p.abs_call p.pair_call p.where_call p.axis_call p.take_call p.transpose_call p.broadcast_call p.stencil_call p.apply_call p.called p.enclosed p.atom p.part p.step p.sliced p.placed p.item p.items p.casting p.reshaping p.transposing p.reducing p.method p.indexing p.suffixes p.postfix p.power p.unary p.level p.expression p.parse h.assigned h.printing h.loading h.saving h.bound h.looping h.binding h.updating h.putting h.named h.head
returns-clause-no_plus c r k = none_is _ (sym (head_reached (word Print ∷ sign LeftParenthesis ∷ sign Plus ∷ t.name (codes "a") ∷ sign RightParenthesis ∷ []) r k))
