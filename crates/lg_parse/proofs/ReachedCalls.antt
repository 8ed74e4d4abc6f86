-- The parsers of calls reach what the grammar spells.
use Rattle.std.proofs.Common.{◌≡◌, ℕ, suc, ◌+◌, ◌<◌, ◌≤◌, max, Option, List, ◌∷◌, false, refl, ◌∙◌, arith}
use Rattle.lg_elem.specs.declared.dtype.DType.{DType}
use Rattle.lg_lex.specs.declared.tokens.TokenKind.TheVariants.{Comma, RightParenthesis}
use Rattle.lg_tree.specs.Tree.{Tree, MaybeTree, no_tree, some_tree, ShapeTree, ListTree, full, zeros, ones, arange, array, abs, minimum, maximum, choose, reduce, scan, take, transpose, broadcast_to, stencil, apply, no_shape, some_shape}
use Rattle.lg_tree.specs.Measures.{height, maybe_height, shape_height, list_height}
use Rattle.lg_parse.specs.declared.rules.Rule.{Rule}
use Rattle.lg_parse.specs.declared.rules.Rule.TheVariants.{Expression}
use Rattle.lg_parse.specs.declared.words.Function.{Function}
use Rattle.lg_parse.specs.Terminal.{Terminal, name, sign}
use Rattle.lg_parse.specs.Types.{SpellsType}
use Rattle.lg_parse.specs.Expressions.{expr, Spells, SpellsAxis, SpellsShape, SpellsList, SpellsCall, a_full, some_zeros, some_ones, a_range_to, a_range, an_array, an_abs, a_minimum, a_maximum, a_choice, a_reduction, a_scan, a_take, a_reversal, a_transpose, a_broadcast, a_stencil, an_application}
use Rattle.lg_parse.specs.Parsing.{Parser, same_kind, sees, eat, expect, ending, next, last, second, shape, next_shape, bracketed, axis_ending, a_word, full_call, even_call, arange_call, array_call, abs_call, pair_call, where_call, axis_call, take_call, transpose_call, broadcast_call, stencil_call, apply_call}
use Rattle.lg_parse.specs.Parsing as p
use Rattle.lg_parse.proofs.Passing.{spans, a_shape}
use Rattle.lg_parse.proofs.Bindings.{got, took, passed, expected, is_low, step}
use Rattle.lg_parse.proofs.Rooms.{Room, past, beyond}
use Rattle.lg_parse.proofs.ReachedParts.{Reaches, argument, type_stops, ending_reached, next_reached, last_reached, no_second_here, second_reached, axis_ending_reached, axis_stops, shape_reached, next_shape_reached, bracketed_reached}

-- behind an argument and its comma
after : {k a h : ℕ} {ts us : List Terminal} {e : Tree} → Spells expr ts (sign Comma ∷ us) e → Room k a h ts → Room k a h us
after d w = beyond (past (spans d).passes w) refl refl

-- what is in room is not too high
fits : {k a h : ℕ} {ts : List Terminal} (n : ℕ) → Room k a h ts → n ≤ h → n ≤ 200
fits {h = h} n w l = let top : h ≤ 200 = w.low in omega arith

full_reached : {inner : Rule → Parser Tree} {k a h : ℕ} {ts us vs rest : List Terminal} {s : ShapeTree} {x : Tree} {t : Option DType} → Reaches inner k → SpellsShape ts (sign Comma ∷ us) s → Spells expr us vs x → SpellsType vs (sign RightParenthesis ∷ rest) t → Room k a h ts → suc (max (shape_height s) (height x)) ≤ h → full_call inner k ts ≡ got (full s x t) rest
unfolding full_call
full_reached {inner = inner} {k = k} {rest = rest} {s = s} {x = x} {t = t} r hs hx ht w l =
    step (shape inner k) _ (shape_reached r hs w (omega arith) (omega arith))
    ∙ step (next inner k) _ (next_reached r hx (beyond (past (a_shape hs).passes w) refl refl) (omega arith) (type_stops ht))
    ∙ step ending _ (ending_reached ht)
    ∙ is_low height (full s x t) rest (fits (suc (max (shape_height s) (height x))) w l)

even_reached : {inner : Rule → Parser Tree} {k a h : ℕ} {ts us rest : List Terminal} {s : ShapeTree} {t : Option DType} → Reaches inner k → (make : ShapeTree → Option DType → Tree) → SpellsShape ts us s → SpellsType us (sign RightParenthesis ∷ rest) t → Room k a h ts → suc (shape_height s) ≤ h → height (make s t) ≤ h → even_call inner k make ts ≡ got (make s t) rest
unfolding even_call
even_reached {inner = inner} {k = k} {rest = rest} {s = s} {t = t} r make hs ht w l m =
    step (shape inner k) _ (shape_reached r hs w (omega arith) (type_stops ht))
    ∙ step ending _ (ending_reached ht)
    ∙ is_low height (make s t) rest (fits (height (make s t)) w m)

range_to_reached : {inner : Rule → Parser Tree} {k a h : ℕ} {ts us rest : List Terminal} {x : Tree} {t : Option DType} → Reaches inner k → Spells expr ts us x → SpellsType us (sign RightParenthesis ∷ rest) t → Room k a h ts → suc (max 0 (height x)) ≤ h → arange_call inner k ts ≡ got (arange no_tree x t) rest
unfolding arange_call
range_to_reached {inner = inner} {k = k} {rest = rest} {x = x} {t = t} r hx ht w l =
    step (inner Expression) _ (argument r hx w (omega arith) (type_stops ht))
    ∙ step (second inner k) _ (no_second_here inner k ht)
    ∙ step ending _ (ending_reached ht)
    ∙ is_low height (arange no_tree x t) rest (fits (suc (max 0 (height x))) w l)

range_reached : {inner : Rule → Parser Tree} {k a h : ℕ} {ts us vs rest : List Terminal} {x y : Tree} {t : Option DType} → Reaches inner k → Spells expr ts (sign Comma ∷ us) x → Spells expr us vs y → SpellsType vs (sign RightParenthesis ∷ rest) t → Room k a h ts → suc (max (height x) (height y)) ≤ h → arange_call inner k ts ≡ got (arange (some_tree x) y t) rest
unfolding arange_call
range_reached {inner = inner} {k = k} {rest = rest} {x = x} {y = y} {t = t} r hx hy ht w l =
    step (inner Expression) _ (argument r hx w (omega arith) (omega arith))
    ∙ step (second inner k) _ (second_reached r hy (after hx w) (omega arith) (type_stops ht))
    ∙ step ending _ (ending_reached ht)
    ∙ is_low height (arange (some_tree x) y t) rest (fits (suc (max (height x) (height y))) w l)

array_reached : {inner : Rule → Parser Tree} {k a h : ℕ} {ts us rest : List Terminal} {l : ListTree} {t : Option DType} → Reaches inner k → SpellsList ts us l → SpellsType us (sign RightParenthesis ∷ rest) t → Room k a h ts → suc (list_height l) ≤ h → array_call inner k ts ≡ got (array l t) rest
unfolding array_call
array_reached {inner = inner} {k = k} {a = a} {h = h} {ts = ts} {us = us} {rest = rest} {l = l} {t = t} r hl ht w low =
    let fuel : 64 + h < a + k = w.fuel in
    step (bracketed inner k k) _ (bracketed_reached r k a h ts us l hl w (omega arith) (omega arith))
    ∙ step ending _ (ending_reached ht)
    ∙ is_low height (array l t) rest (fits (suc (list_height l)) w low)

abs_reached : {inner : Rule → Parser Tree} {k a h : ℕ} {ts rest : List Terminal} {x : Tree} → Reaches inner k → Spells expr ts (sign RightParenthesis ∷ rest) x → Room k a h ts → suc (height x) ≤ h → abs_call inner k ts ≡ got (abs x) rest
unfolding abs_call
abs_reached {inner = inner} {rest = rest} {x = x} r hx w l =
    step (inner Expression) _ (argument r hx w (omega arith) (omega arith))
    ∙ step (expect RightParenthesis) _ (expected RightParenthesis rest)
    ∙ is_low height (abs x) rest (fits (suc (height x)) w l)

pair_reached : {inner : Rule → Parser Tree} {k a h : ℕ} {ts us rest : List Terminal} {x y : Tree} → Reaches inner k → (make : Tree → Tree → Tree) → Spells expr ts (sign Comma ∷ us) x → Spells expr us (sign RightParenthesis ∷ rest) y → Room k a h ts → suc (max (height x) (height y)) ≤ h → height (make x y) ≤ h → pair_call inner k make ts ≡ got (make x y) rest
unfolding pair_call
pair_reached {inner = inner} {k = k} {rest = rest} {x = x} {y = y} r make hx hy w l m =
    step (inner Expression) _ (argument r hx w (omega arith) (omega arith))
    ∙ step (last inner k) _ (last_reached r hy (after hx w) (omega arith))
    ∙ is_low height (make x y) rest (fits (height (make x y)) w m)

where_reached : {inner : Rule → Parser Tree} {k a h : ℕ} {ts us vs rest : List Terminal} {c x y : Tree} → Reaches inner k → Spells expr ts (sign Comma ∷ us) c → Spells expr us (sign Comma ∷ vs) x → Spells expr vs (sign RightParenthesis ∷ rest) y → Room k a h ts → suc (max (height c) (max (height x) (height y))) ≤ h → where_call inner k ts ≡ got (choose c x y) rest
unfolding where_call
where_reached {inner = inner} {k = k} {rest = rest} {c = c} {x = x} {y = y} r hc hx hy w l =
    step (inner Expression) _ (argument r hc w (omega arith) (omega arith))
    ∙ step (next inner k) _ (next_reached r hx (after hc w) (omega arith) (omega arith))
    ∙ step (last inner k) _ (last_reached r hy (after hx (after hc w)) (omega arith))
    ∙ is_low height (choose c x y) rest (fits (suc (max (height c) (max (height x) (height y)))) w l)

axis_call_reached : {inner : Rule → Parser Tree} {k a h : ℕ} {ts us rest : List Terminal} {x : Tree} {e : MaybeTree} → Reaches inner k → (make : Tree → MaybeTree → Tree) → Spells expr ts us x → SpellsAxis us (sign RightParenthesis ∷ rest) e → Room k a h ts → suc (max (height x) (maybe_height e)) ≤ h → height (make x e) ≤ h → axis_call inner k make ts ≡ got (make x e) rest
unfolding axis_call
axis_call_reached {inner = inner} {k = k} {rest = rest} {x = x} {e = e} r make hx he w l m =
    step (inner Expression) _ (argument r hx w (omega arith) (axis_stops he))
    ∙ step (axis_ending inner k) _ (axis_ending_reached r he (past (spans hx).passes w) (omega arith))
    ∙ is_low height (make x e) rest (fits (height (make x e)) w m)

take_reached : {inner : Rule → Parser Tree} {k a h : ℕ} {ts us vs rest : List Terminal} {x i : Tree} {e : MaybeTree} → Reaches inner k → Spells expr ts (sign Comma ∷ us) x → Spells expr us vs i → SpellsAxis vs (sign RightParenthesis ∷ rest) e → Room k a h ts → suc (max (height x) (max (height i) (maybe_height e))) ≤ h → take_call inner k ts ≡ got (take x i e) rest
unfolding take_call
take_reached {inner = inner} {k = k} {rest = rest} {x = x} {i = i} {e = e} r hx hi he w l =
    step (inner Expression) _ (argument r hx w (omega arith) (omega arith))
    ∙ step (next inner k) _ (next_reached r hi (after hx w) (omega arith) (axis_stops he))
    ∙ step (axis_ending inner k) _ (axis_ending_reached r he (past (spans hi).passes (after hx w)) (omega arith))
    ∙ is_low height (take x i e) rest (fits (suc (max (height x) (max (height i) (maybe_height e)))) w l)

comma_no_close : (ts : List Terminal) → sees RightParenthesis (sign Comma ∷ ts) ≡ false
unfolding same_kind
comma_no_close ts = refl

reversal_reached : {inner : Rule → Parser Tree} {k a h : ℕ} {ts rest : List Terminal} {x : Tree} → Reaches inner k → Spells expr ts (sign RightParenthesis ∷ rest) x → Room k a h ts → suc (max (height x) 0) ≤ h → transpose_call inner k ts ≡ got (transpose x no_shape) rest
unfolding transpose_call
reversal_reached {inner = inner} {rest = rest} {x = x} r hx w l =
    step (inner Expression) _ (argument r hx w (omega arith) (omega arith))
    ∙ step (eat RightParenthesis) _ (took RightParenthesis rest)
    ∙ is_low height (transpose x no_shape) rest (fits (suc (max (height x) 0)) w l)

transpose_reached : {inner : Rule → Parser Tree} {k a h : ℕ} {ts us rest : List Terminal} {x : Tree} {s : ShapeTree} → Reaches inner k → Spells expr ts (sign Comma ∷ us) x → SpellsShape us (sign RightParenthesis ∷ rest) s → Room k a h ts → suc (max (height x) (shape_height s)) ≤ h → transpose_call inner k ts ≡ got (transpose x (some_shape s)) rest
unfolding transpose_call
transpose_reached {inner = inner} {k = k} {us = us} {rest = rest} {x = x} {s = s} r hx hs w l =
    step (inner Expression) _ (argument r hx w (omega arith) (omega arith))
    ∙ step (eat RightParenthesis) _ (passed RightParenthesis (sign Comma ∷ us) (comma_no_close us))
    ∙ step (next_shape inner k) _ (next_shape_reached r hs (after hx w) (omega arith) (omega arith))
    ∙ step (expect RightParenthesis) _ (expected RightParenthesis rest)
    ∙ is_low height (transpose x (some_shape s)) rest (fits (suc (max (height x) (shape_height s))) w l)

broadcast_reached : {inner : Rule → Parser Tree} {k a h : ℕ} {ts us rest : List Terminal} {x : Tree} {s : ShapeTree} → Reaches inner k → Spells expr ts (sign Comma ∷ us) x → SpellsShape us (sign RightParenthesis ∷ rest) s → Room k a h ts → suc (max (height x) (shape_height s)) ≤ h → broadcast_call inner k ts ≡ got (broadcast_to x s) rest
unfolding broadcast_call
broadcast_reached {inner = inner} {k = k} {rest = rest} {x = x} {s = s} r hx hs w l =
    step (inner Expression) _ (argument r hx w (omega arith) (omega arith))
    ∙ step (next_shape inner k) _ (next_shape_reached r hs (after hx w) (omega arith) (omega arith))
    ∙ step (expect RightParenthesis) _ (expected RightParenthesis rest)
    ∙ is_low height (broadcast_to x s) rest (fits (suc (max (height x) (shape_height s))) w l)

stencil_reached : {inner : Rule → Parser Tree} {k a h : ℕ} {ts us rest : List Terminal} {x : Tree} {l : ListTree} → Reaches inner k → Spells expr ts (sign Comma ∷ us) x → SpellsList us (sign RightParenthesis ∷ rest) l → Room k a h ts → suc (max (height x) (list_height l)) ≤ h → stencil_call inner k ts ≡ got (stencil x l) rest
unfolding stencil_call
stencil_reached {inner = inner} {k = k} {a = a} {h = h} {us = us} {rest = rest} {x = x} {l = l} r hx hl w low =
    let fuel : 64 + h < a + k = w.fuel in
    step (inner Expression) _ (argument r hx w (omega arith) (omega arith))
    ∙ step (expect Comma) _ (expected Comma us)
    ∙ step (bracketed inner k k) _ (bracketed_reached r k a h us (sign RightParenthesis ∷ rest) l hl (after hx w) (omega arith) (omega arith))
    ∙ step (expect RightParenthesis) _ (expected RightParenthesis rest)
    ∙ is_low height (stencil x l) rest (fits (suc (max (height x) (list_height l))) w low)

pub word_reached : (w : List ℕ) (ts : List Terminal) → a_word (name w ∷ ts) ≡ got w ts
unfolding a_word
word_reached w ts = refl

apply_reached : {inner : Rule → Parser Tree} {k a h : ℕ} {ts us rest : List Terminal} {x y : Tree} → Reaches inner k → (n : List ℕ) → Spells expr ts (sign Comma ∷ us) x → Spells expr us (sign RightParenthesis ∷ rest) y → Room k a h (name n ∷ sign Comma ∷ ts) → suc (max (height x) (height y)) ≤ h → apply_call inner k (name n ∷ sign Comma ∷ ts) ≡ got (apply n x y) rest
unfolding apply_call
apply_reached {inner = inner} {k = k} {a = a} {h = h} {ts = ts} {rest = rest} {x = x} {y = y} r n hx hy w l =
    let v : Room k a h ts = beyond (beyond w refl refl) refl refl in
    step a_word _ (word_reached n (sign Comma ∷ ts))
    ∙ step (next inner k) _ (next_reached r hx v (omega arith) (omega arith))
    ∙ step (last inner k) _ (last_reached r hy (after hx v) (omega arith))
    ∙ is_low height (apply n x y) rest (fits (suc (max (height x) (height y))) w l)

pub inside_reached : {inner : Rule → Parser Tree} {k a h : ℕ} {f : Function} {ts rest : List Terminal} {e : Tree} → Reaches inner k → SpellsCall f ts (sign RightParenthesis ∷ rest) e → Room k a h ts → height e ≤ h → p.inside inner k f ts ≡ got e rest
inside_reached r (a_full s x t) w l = full_reached r s x t w l
inside_reached r (some_zeros s t) w l = even_reached r zeros s t w l l
inside_reached r (some_ones s t) w l = even_reached r ones s t w l l
inside_reached r (a_range_to x t) w l = range_to_reached r x t w l
inside_reached r (a_range x y t) w l = range_reached r x y t w l
inside_reached r (an_array x t) w l = array_reached r x t w l
inside_reached r (an_abs x) w l = abs_reached r x w l
inside_reached r (a_minimum x y) w l = pair_reached r minimum x y w l l
inside_reached r (a_maximum x y) w l = pair_reached r maximum x y w l l
inside_reached r (a_choice c x y) w l = where_reached r c x y w l
inside_reached r (a_reduction o x k) w l = axis_call_reached r (reduce o) x k w l l
inside_reached r (a_scan o x k) w l = axis_call_reached r (scan o) x k w l l
inside_reached r (a_take x i k) w l = take_reached r x i k w l
inside_reached r (a_reversal x) w l = reversal_reached r x w l
inside_reached r (a_transpose x s) w l = transpose_reached r x s w l
inside_reached r (a_broadcast x s) w l = broadcast_reached r x s w l
inside_reached r (a_stencil x y) w l = stencil_reached r x y w l
inside_reached r (an_application n x y) w l = apply_reached r n x y w l
