-- What the parsers of calls find.
use Rattle.std.proofs.Common.{ℕ, Option, List, ◌∷◌}
use Rattle.lg_elem.specs.declared.dtype.DType.{DType}
use Rattle.lg_lex.specs.declared.tokens.TokenKind.TheVariants.{Comma, RightParenthesis}
use Rattle.lg_tree.specs.Tree.{Tree, MaybeTree, ShapeTree, ListTree, full, zeros, ones, array, abs, minimum, maximum, choose, reduce, scan, take, transpose, broadcast_to, stencil, apply, no_shape, some_shape}
use Rattle.lg_tree.specs.Measures.{height}
use Rattle.lg_parse.specs.declared.rules.Rule.{Rule}
use Rattle.lg_parse.specs.declared.rules.Rule.TheVariants.{Expression}
use Rattle.lg_parse.specs.declared.words.Function.{Function}
use Rattle.lg_parse.specs.declared.words.Function.TheVariants.{Full, Zeros, Ones, Arange, Array, Abs, Minimum, Maximum, Where, Reduce, Take, Transpose, BroadcastTo, Stencil, Apply, Scan}
use Rattle.lg_parse.specs.Terminal.{Terminal, sign}
use Rattle.lg_parse.specs.Types.{SpellsType}
use Rattle.lg_parse.specs.Expressions.{expr, Spells, SpellsAxis, SpellsShape, SpellsList, SpellsCall, a_full, some_zeros, some_ones, a_range_to, a_range, an_array, an_abs, a_minimum, a_maximum, a_choice, a_reduction, a_scan, a_take, a_reversal, a_transpose, a_broadcast, a_stencil, an_application}
use Rattle.lg_parse.specs.Parsing.{Parser, ranged, full_call, even_call, arange_call, array_call, abs_call, pair_call, where_call, axis_call, take_call, transpose_call, broadcast_call, stencil_call, apply_call}
use Rattle.lg_parse.specs.Parsing as p
use Rattle.lg_parse.proofs.Steps.{Takes, takes}
use Rattle.lg_parse.proofs.Found.{Found, then, low_found, choice, behind_sign}
use Rattle.lg_parse.proofs.FoundParts.{FindsInner, Next, next_is, next_found, Last, final_is, last_found, Second, no_second, a_second, second_found, NextShape, next_shape_is, next_shape_found, shape_found, ending_found, axis_ending_found, bracketed_found, IsName, is_name, word_found}

-- the arguments of a call, up to its parenthesis
abbrev pub Inside : Function → List Terminal → Tree → List Terminal → Type 0
Inside f ts e rest = SpellsCall f ts (sign RightParenthesis ∷ rest) e

full_is : {s : ShapeTree} {x : Tree} {t : Option DType} {ts us vs rest : List Terminal} → SpellsShape ts us s → Next us vs x → SpellsType vs rest t → SpellsCall Full ts rest (full s x t)
full_is hs (next_is hx) ht = a_full hs hx ht

full_found : {inner : Rule → Parser Tree} {deep : ℕ} → FindsInner inner deep → (ts : List Terminal) → Found (Inside Full ts) (full_call inner deep) ts
unfolding full_call
full_found h ts = then (shape_found h ts) (λ s us hs. then (next_found h us) (λ x vs hx. then (ending_found vs) (λ t ws ht. low_found height (full s x t) (full_is hs hx ht))))

even_found : {inner : Rule → Parser Tree} {deep : ℕ} (f : Function) (make : ShapeTree → Option DType → Tree) → FindsInner inner deep → ((s : ShapeTree) (t : Option DType) (ts us rest : List Terminal) → SpellsShape ts us s → SpellsType us rest t → SpellsCall f ts rest (make s t)) → (ts : List Terminal) → Found (Inside f ts) (even_call inner deep make) ts
unfolding even_call
even_found f make h k ts = then (shape_found h ts) (λ s us hs. then (ending_found us) (λ t ws ht. low_found height (make s t) (k s t ts us (sign RightParenthesis ∷ ws) hs ht)))

arange_is : {x : Tree} {y : MaybeTree} {t : Option DType} {ts us vs rest : List Terminal} → Spells expr ts us x → Second us vs y → SpellsType vs rest t → SpellsCall Arange ts rest (ranged x y t)
arange_is hx no_second ht = a_range_to hx ht
arange_is hx (a_second hy) ht = a_range hx hy ht

arange_found : {inner : Rule → Parser Tree} {deep : ℕ} → FindsInner inner deep → (ts : List Terminal) → Found (Inside Arange ts) (arange_call inner deep) ts
unfolding arange_call
arange_found h ts = then (h.find Expression ts) (λ x us hx. then (second_found h us) (λ y vs hy. then (ending_found vs) (λ t ws ht. low_found height (ranged x y t) (arange_is hx hy ht))))

array_found : {inner : Rule → Parser Tree} {deep : ℕ} → FindsInner inner deep → (ts : List Terminal) → Found (Inside Array ts) (array_call inner deep) ts
unfolding array_call
array_found {deep = deep} h ts = then (bracketed_found h deep ts) (λ l us hl. then (ending_found us) (λ t ws ht. low_found height (array l t) (an_array hl ht)))

abs_is : {x : Tree} {ts us rest : List Terminal} → Spells expr ts us x → Takes RightParenthesis us rest → SpellsCall Abs ts (sign RightParenthesis ∷ rest) (abs x)
abs_is hx takes = an_abs hx

abs_found : {inner : Rule → Parser Tree} {deep : ℕ} → FindsInner inner deep → (ts : List Terminal) → Found (Inside Abs ts) (abs_call inner deep) ts
unfolding abs_call
abs_found h ts = then (h.find Expression ts) (λ x us hx. behind_sign RightParenthesis (λ vs w. low_found height (abs x) (abs_is hx w)))

minimum_is : (x y : Tree) (ts us rest : List Terminal) → Spells expr ts us x → Last us rest y → SpellsCall Minimum ts (sign RightParenthesis ∷ rest) (minimum x y)
minimum_is x y ts _ rest hx (final_is hy) = a_minimum hx hy

maximum_is : (x y : Tree) (ts us rest : List Terminal) → Spells expr ts us x → Last us rest y → SpellsCall Maximum ts (sign RightParenthesis ∷ rest) (maximum x y)
maximum_is x y ts _ rest hx (final_is hy) = a_maximum hx hy

pair_found : {inner : Rule → Parser Tree} {deep : ℕ} (f : Function) (make : Tree → Tree → Tree) → FindsInner inner deep → ((x y : Tree) (ts us rest : List Terminal) → Spells expr ts us x → Last us rest y → SpellsCall f ts (sign RightParenthesis ∷ rest) (make x y)) → (ts : List Terminal) → Found (Inside f ts) (pair_call inner deep make) ts
unfolding pair_call
pair_found f make h k ts = then (h.find Expression ts) (λ x us hx. then (last_found h us) (λ y vs hy. low_found height (make x y) (k x y ts us vs hx hy)))

where_is : {c x y : Tree} {ts us vs rest : List Terminal} → Spells expr ts us c → Next us vs x → Last vs rest y → SpellsCall Where ts (sign RightParenthesis ∷ rest) (choose c x y)
where_is hc (next_is hx) (final_is hy) = a_choice hc hx hy

where_found : {inner : Rule → Parser Tree} {deep : ℕ} → FindsInner inner deep → (ts : List Terminal) → Found (Inside Where ts) (where_call inner deep) ts
unfolding where_call
where_found h ts = then (h.find Expression ts) (λ c us hc. then (next_found h us) (λ x vs hx. then (last_found h vs) (λ y ws hy. low_found height (choose c x y) (where_is hc hx hy))))

axis_call_found : {inner : Rule → Parser Tree} {deep : ℕ} (f : Function) (make : Tree → MaybeTree → Tree) → FindsInner inner deep → ((x : Tree) (k : MaybeTree) (ts us rest : List Terminal) → Spells expr ts us x → SpellsAxis us rest k → SpellsCall f ts rest (make x k)) → (ts : List Terminal) → Found (Inside f ts) (axis_call inner deep make) ts
unfolding axis_call
axis_call_found f make h i ts = then (h.find Expression ts) (λ x us hx. then (axis_ending_found h us) (λ k vs hk. low_found height (make x k) (i x k ts us (sign RightParenthesis ∷ vs) hx hk)))

take_is : {x y : Tree} {k : MaybeTree} {ts us vs rest : List Terminal} → Spells expr ts us x → Next us vs y → SpellsAxis vs rest k → SpellsCall Take ts rest (take x y k)
take_is hx (next_is hy) hk = a_take hx hy hk

take_found : {inner : Rule → Parser Tree} {deep : ℕ} → FindsInner inner deep → (ts : List Terminal) → Found (Inside Take ts) (take_call inner deep) ts
unfolding take_call
take_found h ts = then (h.find Expression ts) (λ x us hx. then (next_found h us) (λ y vs hy. then (axis_ending_found h vs) (λ k ws hk. low_found height (take x y k) (take_is hx hy hk))))

reversal_is : {x : Tree} {ts us rest : List Terminal} → Spells expr ts us x → Takes RightParenthesis us rest → SpellsCall Transpose ts (sign RightParenthesis ∷ rest) (transpose x no_shape)
reversal_is hx takes = a_reversal hx

transpose_is : {x : Tree} {s : ShapeTree} {ts us vs rest : List Terminal} → Spells expr ts us x → NextShape us vs s → Takes RightParenthesis vs rest → SpellsCall Transpose ts (sign RightParenthesis ∷ rest) (transpose x (some_shape s))
transpose_is hx (next_shape_is hs) takes = a_transpose hx hs

transpose_found : {inner : Rule → Parser Tree} {deep : ℕ} → FindsInner inner deep → (ts : List Terminal) → Found (Inside Transpose ts) (transpose_call inner deep) ts
unfolding transpose_call
transpose_found h ts =
    then (h.find Expression ts) (λ x us hx. choice RightParenthesis (λ vs w. low_found height (transpose x no_shape) (reversal_is hx w)) (then (next_shape_found h us) (λ s vs hs. behind_sign RightParenthesis (λ ws w. low_found height (transpose x (some_shape s)) (transpose_is hx hs w)))))

broadcast_is : {x : Tree} {s : ShapeTree} {ts us vs rest : List Terminal} → Spells expr ts us x → NextShape us vs s → Takes RightParenthesis vs rest → SpellsCall BroadcastTo ts (sign RightParenthesis ∷ rest) (broadcast_to x s)
broadcast_is hx (next_shape_is hs) takes = a_broadcast hx hs

broadcast_found : {inner : Rule → Parser Tree} {deep : ℕ} → FindsInner inner deep → (ts : List Terminal) → Found (Inside BroadcastTo ts) (broadcast_call inner deep) ts
unfolding broadcast_call
broadcast_found h ts = then (h.find Expression ts) (λ x us hx. then (next_shape_found h us) (λ s vs hs. behind_sign RightParenthesis (λ ws w. low_found height (broadcast_to x s) (broadcast_is hx hs w))))

stencil_is : {x : Tree} {l : ListTree} {ts us vs ws rest : List Terminal} → Spells expr ts us x → Takes Comma us vs → SpellsList vs ws l → Takes RightParenthesis ws rest → SpellsCall Stencil ts (sign RightParenthesis ∷ rest) (stencil x l)
stencil_is hx takes hl takes = a_stencil hx hl

stencil_found : {inner : Rule → Parser Tree} {deep : ℕ} → FindsInner inner deep → (ts : List Terminal) → Found (Inside Stencil ts) (stencil_call inner deep) ts
unfolding stencil_call
stencil_found {deep = deep} h ts = then (h.find Expression ts) (λ x us hx. behind_sign Comma (λ vs c. then (bracketed_found h deep vs) (λ l ws hl. behind_sign RightParenthesis (λ zs w. low_found height (stencil x l) (stencil_is hx c hl w)))))

apply_is : {n : List ℕ} {x y : Tree} {ts us vs rest : List Terminal} → IsName ts us n → Next us vs x → Last vs rest y → SpellsCall Apply ts (sign RightParenthesis ∷ rest) (apply n x y)
apply_is is_name (next_is hx) (final_is hy) = an_application _ hx hy

apply_found : {inner : Rule → Parser Tree} {deep : ℕ} → FindsInner inner deep → (ts : List Terminal) → Found (Inside Apply ts) (apply_call inner deep) ts
unfolding apply_call
apply_found h ts = then (word_found ts) (λ n us hn. then (next_found h us) (λ x vs hx. then (last_found h vs) (λ y ws hy. low_found height (apply n x y) (apply_is hn hx hy))))

pub inside_found : {inner : Rule → Parser Tree} {deep : ℕ} (f : Function) → FindsInner inner deep → (ts : List Terminal) → Found (Inside f ts) (p.inside inner deep f) ts
inside_found Full h ts = full_found h ts
inside_found Zeros h ts = even_found Zeros zeros h (λ s t us vs rest hs ht. some_zeros hs ht) ts
inside_found Ones h ts = even_found Ones ones h (λ s t us vs rest hs ht. some_ones hs ht) ts
inside_found Arange h ts = arange_found h ts
inside_found Array h ts = array_found h ts
inside_found Abs h ts = abs_found h ts
inside_found Minimum h ts = pair_found Minimum minimum h minimum_is ts
inside_found Maximum h ts = pair_found Maximum maximum h maximum_is ts
inside_found Where h ts = where_found h ts
inside_found (Reduce r) h ts = axis_call_found (Reduce r) (reduce r) h (λ x k us vs rest hx hk. a_reduction r hx hk) ts
inside_found Take h ts = take_found h ts
inside_found Transpose h ts = transpose_found h ts
inside_found BroadcastTo h ts = broadcast_found h ts
inside_found Stencil h ts = stencil_found h ts
inside_found Apply h ts = apply_found h ts
inside_found (Scan c) h ts = axis_call_found (Scan c) (scan c) h (λ x k us vs rest hx hk. a_scan c hx hk) ts
