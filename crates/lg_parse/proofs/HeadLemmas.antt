-- The parser of the lines of statements finds and reaches what the grammar spells.
use Rattle.std.proofs.Common.{◌≡◌, ℕ, suc, ◌+◌, ◌<◌, ◌≤◌, max, false, Option, Some, None, List, [], ◌∷◌, length, refl, sym, ap, ◌∙◌, subst, arith}
use Rattle.lg_lex.specs.declared.tokens.TokenKind.{TokenKind}
use Rattle.lg_lex.specs.declared.tokens.TokenKind.TheVariants.{Equal, Comma, Colon, LeftParenthesis, RightParenthesis, LeftBracket, RightBracket}
use Rattle.lg_tree.specs.declared.kinds.Arith.{Arith}
use Rattle.lg_tree.specs.Tree.{Tree, no_tree, some_tree, ItemTree, ItemTrees, more_items, bind, update, put, update_at, print, load, save}
use Rattle.lg_tree.specs.Measures.{height, nodes, item_height, items_height, item_nodes, items_nodes}
use Rattle.lg_parse.specs.declared.rules.Rule.TheVariants.{Expression}
use Rattle.lg_parse.specs.declared.words.Word.{Word}
use Rattle.lg_parse.specs.declared.words.Word.TheVariants.{Print, For, In, Range, Load, Save}
use Rattle.lg_parse.specs.Brackets.{NestsAtMost, opened, closed, opens, closes}
use Rattle.lg_parse.specs.Operators.{assigning}
use Rattle.lg_parse.specs.Terminal.{Terminal, word, element, function, sign}
use Rattle.lg_parse.specs.Terminal as t
use Rattle.lg_parse.specs.Expressions.{expr, Spells, SpellsItems}
use Rattle.lg_tree.specs.Heads.{HeadTree, whole, loop_head, head_height, head_nodes}
use Rattle.lg_parse.specs.Statements.{SpellsHead, a_bind, an_update, a_put, an_update_at, a_print, a_load, a_save, a_loop_to, a_loop, HoldsHead}
use Rattle.lg_parse.specs.Parsing.{Outcome, made, same_kind, sees, eat, eat_word, expect, expect_word, a_word, items, parse, DEPTH}
use Rattle.lg_parse.specs.ParsingHeads.{expression, assigned, printing, loading, saving, bound, looping, binding, updating, putting, named, worded, head_by, head}
use Rattle.lg_parse.proofs.Steps.{Takes, takes, TakesWord, takes_word}
use Rattle.lg_parse.proofs.Found.{FoundAt, Found, then, pure_found, refuse_found, choice, word_choice, behind_sign, behind_word, weaker}
use Rattle.lg_parse.proofs.FoundParts.{IsName, is_name, word_found, Indexes, indexes, items_found}
use Rattle.lg_parse.proofs.FoundRules.{parse_finds}
use Rattle.lg_parse.proofs.Passing.{spans, items_pass}
use Rattle.lg_parse.proofs.Fronts.{begins, no_load_word}
use Rattle.lg_parse.proofs.Bindings.{binding as binds, got, took, took_word, passed, passed_word, expected, expected_word, step}
use Rattle.lg_parse.proofs.Rooms.{Fits, fits_in, fits_next, fits_past, Room}
use Rattle.lg_parse.proofs.ReachedParts.{argument, items_reached}
use Rattle.lg_parse.proofs.ReachedCalls.{word_reached}
use Rattle.lg_parse.proofs.ReachedRules.{ready}
use Rattle.lg_parse.proofs.Sizes.{small, small_items}

-- ---- what is found: a head up to what is left

-- what would spell a head if nothing were left
abbrev Spelled : List Terminal → HeadTree → List Terminal → Type 0
Spelled ts h rest = rest ≡ [] → SpellsHead ts h

expression_found : (ts : List Terminal) → Found (λ e rest. Spells expr ts rest e) expression ts
expression_found ts = (parse_finds DEPTH).find Expression ts

to_end : {ts rest : List Terminal} {e : Tree} → Spells expr ts rest e → rest ≡ [] → Spells expr ts [] e
to_end {ts} {rest} {e} d h = subst (λ (z : List Terminal). Spells expr ts z e) h d

close_end : {ts us rest : List Terminal} {e : Tree} → Spells expr ts us e → Takes RightParenthesis us rest → rest ≡ [] → Spells expr ts (sign RightParenthesis ∷ []) e
close_end {ts} {us} {rest} {e} d takes h = subst (λ (z : List Terminal). Spells expr ts (sign RightParenthesis ∷ z) e) h d

print_is : {ts us vs rest : List Terminal} {e : Tree} → Takes LeftParenthesis ts us → Spells expr us vs e → Takes RightParenthesis vs rest → Spelled (word Print ∷ ts) (whole (print e)) rest
print_is takes d w h = a_print (close_end d w h)

printing_found : (ts : List Terminal) → Found (Spelled (word Print ∷ ts)) printing ts
unfolding printing
printing_found ts = behind_sign LeftParenthesis (λ us w. then (expression_found us) (λ e vs d. behind_sign RightParenthesis (λ ws v. pure_found (whole (print e)) (print_is w d v))))

load_is : {w file : List ℕ} {ts us vs rest : List Terminal} → Takes LeftParenthesis ts us → IsName us vs file → Takes RightParenthesis vs rest → Spelled (t.name w ∷ sign Equal ∷ word Load ∷ ts) (whole (load w file)) rest
load_is {w} {file} {rest = rest} takes is_name takes h =
    subst (λ (z : List Terminal). SpellsHead (t.name w ∷ sign Equal ∷ word Load ∷ sign LeftParenthesis ∷ t.name file ∷ sign RightParenthesis ∷ z) (whole (load w file))) (sym h) (a_load w file)

loading_found : (w : List ℕ) (ts : List Terminal) → Found (Spelled (t.name w ∷ sign Equal ∷ word Load ∷ ts)) (loading w) ts
unfolding loading
loading_found w ts = behind_sign LeftParenthesis (λ us a. then (word_found us) (λ file vs b. behind_sign RightParenthesis (λ ws c. pure_found (whole (load w file)) (load_is a b c))))

save_is : {file : List ℕ} {ts us vs ws xs rest : List Terminal} {e : Tree} → Takes LeftParenthesis ts us → IsName us vs file → Takes Comma vs ws → Spells expr ws xs e → Takes RightParenthesis xs rest → Spelled (word Save ∷ ts) (whole (save file e)) rest
save_is takes is_name takes d w h = a_save _ (close_end d w h)

saving_found : (ts : List Terminal) → Found (Spelled (word Save ∷ ts)) saving ts
unfolding saving
saving_found ts = behind_sign LeftParenthesis (λ us a. then (word_found us) (λ file vs b. behind_sign Comma (λ ws c. then (expression_found ws) (λ e xs d. behind_sign RightParenthesis (λ ys v. pure_found (whole (save file e)) (save_is a b c d v))))))

-- the bounds of a loop, up to what is left behind them
data Bounds (ts : List Terminal) (w : List ℕ) : HeadTree → List Terminal → Type 0 where
  one_bound : {e : Tree} {rest : List Terminal} → Spells expr ts rest e → Bounds ts w (loop_head w no_tree e) rest
  two_bounds : {from to : Tree} {us rest : List Terminal} → Spells expr ts (sign Comma ∷ us) from → Spells expr us rest to → Bounds ts w (loop_head w (some_tree from) to) rest

two_are : {w : List ℕ} {ts us vs rest : List Terminal} {from to : Tree} → Spells expr ts us from → Takes Comma us vs → Spells expr vs rest to → Bounds ts w (loop_head w (some_tree from) to) rest
two_are d takes e = two_bounds d e

bound_found : (w : List ℕ) (ts us : List Terminal) (e : Tree) → Spells expr ts us e → Found (Bounds ts w) (bound w e) us
unfolding bound
bound_found w ts us e d = choice Comma (λ vs c. then (expression_found vs) (λ to ws k. pure_found (loop_head w (some_tree e) to) (two_are d c k))) (pure_found (loop_head w no_tree e) (one_bound d))

loop_is : {w : List ℕ} {h : HeadTree} {ts us vs ws xs ys zs rest : List Terminal} → IsName ts us w → TakesWord In us vs → TakesWord Range vs ws → Takes LeftParenthesis ws xs → Bounds xs w h ys → Takes RightParenthesis ys zs → Takes Colon zs rest → Spelled (word For ∷ ts) h rest
loop_is {w} {xs = xs} {rest = rest} is_name takes_word takes_word takes (one_bound {e = e} d) takes takes h =
    a_loop_to w (subst (λ (z : List Terminal). Spells expr xs (sign RightParenthesis ∷ sign Colon ∷ z) e) h d)
loop_is {w} {rest = rest} is_name takes_word takes_word takes (two_bounds {to = to} {us = us} d e) takes takes h =
    a_loop w d (subst (λ (z : List Terminal). Spells expr us (sign RightParenthesis ∷ sign Colon ∷ z) to) h e)

looping_found : (ts : List Terminal) → Found (Spelled (word For ∷ ts)) looping ts
unfolding looping
looping_found ts =
    then (word_found ts) (λ w us a. behind_word In (λ vs b. behind_word Range (λ ws c. behind_sign LeftParenthesis (λ xs p. then (expression_found xs) (λ e ys d. then (bound_found w xs ys e d) (λ h zs k. behind_sign RightParenthesis (λ us' q. behind_sign Colon (λ vs' s. pure_found h (loop_is a b c p k q s)))))))))

binding_word : {w : List ℕ} {ts us : List Terminal} {h : HeadTree} {rest : List Terminal} → TakesWord Load ts us → Spelled (t.name w ∷ sign Equal ∷ word Load ∷ us) h rest → Spelled (t.name w ∷ sign Equal ∷ ts) h rest
binding_word takes_word k = k

binding_found : (w : List ℕ) (ts : List Terminal) → Found (Spelled (t.name w ∷ sign Equal ∷ ts)) (binding w) ts
unfolding binding
binding_found w ts = word_choice Load (λ us v. weaker (λ h rest k. binding_word v k) (loading_found w us)) (then (expression_found ts) (λ e us d. pure_found (whole (bind w e)) (λ h. a_bind w (to_end d h))))

-- an assigning operator stands in front of what is left
data Assigns : Arith → List Terminal → List Terminal → Type 0 where
  assigns : {o : Arith} {ts : List Terminal} (k : TokenKind) → assigning k ≡ Some o → Assigns o (sign k ∷ ts) ts

sign_assigns : (k : TokenKind) (ts : List Terminal) (o : Option Arith) → assigning k ≡ o → FoundAt (λ a rest. Assigns a (sign k ∷ ts) rest) (made o ts)
sign_assigns k ts None e = tt
sign_assigns k ts (Some o) e = assigns k e

assigned_at : (ts : List Terminal) → FoundAt (λ o rest. Assigns o ts rest) (assigned ts)
unfolding assigned
assigned_at (sign k ∷ ts) = sign_assigns k ts (assigning k) refl
assigned_at [] = tt
assigned_at (t.name w ∷ ts) = tt
assigned_at (t.number n ∷ ts) = tt
assigned_at (word w ∷ ts) = tt
assigned_at (element d ∷ ts) = tt
assigned_at (function f ∷ ts) = tt

assigned_found : (ts : List Terminal) → Found (λ o rest. Assigns o ts rest) assigned ts
assigned_found ts = record { found = assigned_at ts }

update_is : {w : List ℕ} {o : Arith} {ts us rest : List Terminal} {e : Tree} → Assigns o ts us → Spells expr us rest e → Spelled (t.name w ∷ ts) (whole (update w o e)) rest
update_is {w} (assigns k a) d h = an_update w k _ a (to_end d h)

updating_found : (w : List ℕ) (ts : List Terminal) → Found (Spelled (t.name w ∷ ts)) (updating w) ts
unfolding updating
updating_found w ts = then (assigned_found ts) (λ o us a. then (expression_found us) (λ e vs d. pure_found (whole (update w o e)) (update_is a d)))

put_is : {w : List ℕ} {is : ItemTrees} {ts us vs rest : List Terminal} {e : Tree} → Indexes ts us is → Takes Equal us vs → Spells expr vs rest e → Spelled (t.name w ∷ sign LeftBracket ∷ ts) (whole (put w is e)) rest
put_is {w} (indexes d) takes k h = a_put w d (to_end k h)

update_at_is : {w : List ℕ} {is : ItemTrees} {o : Arith} {ts us vs rest : List Terminal} {e : Tree} → Indexes ts us is → Assigns o us vs → Spells expr vs rest e → Spelled (t.name w ∷ sign LeftBracket ∷ ts) (whole (update_at w is o e)) rest
update_at_is {w} (indexes d) (assigns k a) e h = an_update_at w k _ a d (to_end e h)

putting_found : (w : List ℕ) (is : ItemTrees) (ts us : List Terminal) → Indexes ts us is → Found (Spelled (t.name w ∷ sign LeftBracket ∷ ts)) (putting w is) us
unfolding putting
putting_found w is ts us i =
    choice Equal (λ vs b. then (expression_found vs) (λ e ws d. pure_found (whole (put w is e)) (put_is i b d)))
    (then (assigned_found us) (λ o vs a. then (expression_found vs) (λ e ws d. pure_found (whole (update_at w is o e)) (update_at_is i a d))))

named_bind : {w : List ℕ} {ts us : List Terminal} {h : HeadTree} {rest : List Terminal} → Takes Equal ts us → Spelled (t.name w ∷ sign Equal ∷ us) h rest → Spelled (t.name w ∷ ts) h rest
named_bind takes k = k

named_put : {w : List ℕ} {ts us : List Terminal} {h : HeadTree} {rest : List Terminal} → Takes LeftBracket ts us → Spelled (t.name w ∷ sign LeftBracket ∷ us) h rest → Spelled (t.name w ∷ ts) h rest
named_put takes k = k

named_found : (w : List ℕ) (ts : List Terminal) → Found (Spelled (t.name w ∷ ts)) (named w) ts
unfolding named
named_found w ts =
    choice Equal (λ us b. weaker (λ h rest k. named_bind b k) (binding_found w us))
    (choice LeftBracket (λ us b. then (items_found (parse_finds DEPTH) us) (λ is vs i. weaker (λ h rest k. named_put b k) (putting_found w is us vs i))) (updating_found w ts))

worded_found : (w : Word) (ts : List Terminal) → Found (Spelled (word w ∷ ts)) (worded w) ts
worded_found Print ts = printing_found ts
worded_found For ts = looping_found ts
worded_found Save ts = saving_found ts
worded_found _ ts = refuse_found

head_at : (ts : List Terminal) → FoundAt (Spelled ts) (head_by ts)
head_at [] = tt
head_at (t.name w ∷ ts) = (named_found w ts).found
head_at (t.number n ∷ ts) = tt
head_at (word w ∷ ts) = (worded_found w ts).found
head_at (element d ∷ ts) = tt
head_at (function f ∷ ts) = tt
head_at (sign k ∷ ts) = tt

whole_at : (ts : List Terminal) (h : HeadTree) (o : Outcome HeadTree) → o ≡ got h [] → FoundAt (Spelled ts) o → SpellsHead ts h
whole_at ts h o e k = (subst (FoundAt (Spelled ts)) e k) refl

-- what is found, with nothing left, is the grammar's
pub head_found : (ts : List Terminal) (h : HeadTree) → head ts ≡ got h [] → SpellsHead ts h
unfolding head
head_found ts h e = whole_at ts h (head_by ts) e (head_at ts)

-- ---- what is reached

room : {a : ℕ} {ts : List Terminal} → Fits a ts → Room DEPTH a 200 ts
room {a} f = record { fits = f; fuel = omega arith; low = omega arith }

expression_reached : {a : ℕ} {ts rest : List Terminal} {e : Tree} → Spells expr ts rest e → Fits a ts → height e ≤ 200 → 8 < binds rest → expression ts ≡ got e rest
expression_reached d f l stop = argument (ready DEPTH) d (room f) l stop

fits_out : {a : ℕ} {k : TokenKind} {ts : List Terminal} → Fits (suc a) (sign k ∷ ts) → opens k ≡ 0 → closes k ≡ 1 → Fits a ts
fits_out {a} {k} {ts} w o c = record {
  at = λ front rest e.
      let h : suc a + opened (sign k ∷ front) ≤ 64 + closed (sign k ∷ front) = w.at (sign k ∷ front) rest (ap (λ (z : List Terminal). sign k ∷ z) e) in
      omega arith;
}

bind_reached : (w : List ℕ) {ts : List Terminal} {e : Tree} → Spells expr ts [] e → Fits 0 ts → height e ≤ 200 → named w (sign Equal ∷ ts) ≡ got (whole (bind w e)) []
unfolding named binding
bind_reached w {ts} d f l = step (eat Equal) _ (took Equal ts) ∙ step (eat_word Load) _ (passed_word Load ts (no_load_word ts (begins d))) ∙ step expression _ (expression_reached d f l (omega arith))

load_reached : (w file : List ℕ) → named w (sign Equal ∷ word Load ∷ sign LeftParenthesis ∷ t.name file ∷ sign RightParenthesis ∷ []) ≡ got (whole (load w file)) []
unfolding named binding loading
load_reached w file =
    step (eat Equal) _ (took Equal (word Load ∷ sign LeftParenthesis ∷ t.name file ∷ sign RightParenthesis ∷ []))
    ∙ step (eat_word Load) _ (took_word Load (sign LeftParenthesis ∷ t.name file ∷ sign RightParenthesis ∷ []))
    ∙ step (expect LeftParenthesis) _ (expected LeftParenthesis (t.name file ∷ sign RightParenthesis ∷ []))
    ∙ step a_word _ (word_reached file (sign RightParenthesis ∷ []))
    ∙ step (expect RightParenthesis) _ (expected RightParenthesis [])

no_equal : (k : TokenKind) (o : Arith) (ts : List Terminal) → assigning k ≡ Some o → sees Equal (sign k ∷ ts) ≡ false
unfolding same_kind
no_equal Equal o ts h = absurd (cc)
no_equal _ o ts h = refl

no_opening : (k : TokenKind) (o : Arith) (ts : List Terminal) → assigning k ≡ Some o → sees LeftBracket (sign k ∷ ts) ≡ false
unfolding same_kind
no_opening LeftBracket o ts h = absurd (cc)
no_opening _ o ts h = refl

assigned_reached : (k : TokenKind) (o : Arith) (ts : List Terminal) → assigning k ≡ Some o → assigned (sign k ∷ ts) ≡ got o ts
unfolding assigned
assigned_reached k o ts h = ap (λ (q : Option Arith). made q ts) h

update_reached : (w : List ℕ) (k : TokenKind) (o : Arith) {ts : List Terminal} {e : Tree} → assigning k ≡ Some o → Spells expr ts [] e → Fits 0 ts → height e ≤ 200 → named w (sign k ∷ ts) ≡ got (whole (update w o e)) []
unfolding named updating
update_reached w k o {ts} a d f l =
    step (eat Equal) _ (passed Equal (sign k ∷ ts) (no_equal k o ts a))
    ∙ step (eat LeftBracket) _ (passed LeftBracket (sign k ∷ ts) (no_opening k o ts a))
    ∙ step assigned _ (assigned_reached k o ts a)
    ∙ step expression _ (expression_reached d f l (omega arith))

bracket_no_equal : (ts : List Terminal) → sees Equal (sign LeftBracket ∷ ts) ≡ false
unfolding same_kind
bracket_no_equal ts = refl

index_reached : (w : List ℕ) {ts us : List Terminal} {i : ItemTree} {is : ItemTrees} (h : HeadTree) → SpellsItems ts (sign RightBracket ∷ us) (more_items i is) → Fits 1 ts → max (item_height i) (items_height is) ≤ 200 → putting w (more_items i is) us ≡ got h [] → named w (sign LeftBracket ∷ ts) ≡ got h []
unfolding named
index_reached w {ts} h d f l k =
    step (eat Equal) _ (passed Equal (sign LeftBracket ∷ ts) (bracket_no_equal ts))
    ∙ step (eat LeftBracket) _ (took LeftBracket ts)
    ∙ step (items (parse DEPTH) DEPTH) _ (items_reached (ready DEPTH) d (room f) l)
    ∙ k

put_reached : (w : List ℕ) (is : ItemTrees) {us : List Terminal} {e : Tree} → Spells expr us [] e → Fits 0 us → height e ≤ 200 → putting w is (sign Equal ∷ us) ≡ got (whole (put w is e)) []
unfolding putting
put_reached w is {us} d f l = step (eat Equal) _ (took Equal us) ∙ step expression _ (expression_reached d f l (omega arith))

update_at_reached : (w : List ℕ) (is : ItemTrees) (k : TokenKind) (o : Arith) {us : List Terminal} {e : Tree} → assigning k ≡ Some o → Spells expr us [] e → Fits 0 us → height e ≤ 200 → putting w is (sign k ∷ us) ≡ got (whole (update_at w is o e)) []
unfolding putting
update_at_reached w is k o {us} a d f l =
    step (eat Equal) _ (passed Equal (sign k ∷ us) (no_equal k o us a))
    ∙ step assigned _ (assigned_reached k o us a)
    ∙ step expression _ (expression_reached d f l (omega arith))

print_reached : {ts : List Terminal} {e : Tree} → Spells expr ts (sign RightParenthesis ∷ []) e → Fits 1 ts → height e ≤ 200 → printing (sign LeftParenthesis ∷ ts) ≡ got (whole (print e)) []
unfolding printing
print_reached {ts} d f l =
    step (expect LeftParenthesis) _ (expected LeftParenthesis ts)
    ∙ step expression _ (expression_reached d f l (omega arith))
    ∙ step (expect RightParenthesis) _ (expected RightParenthesis [])

save_reached : (file : List ℕ) {ts : List Terminal} {e : Tree} → Spells expr ts (sign RightParenthesis ∷ []) e → Fits 1 ts → height e ≤ 200 → saving (sign LeftParenthesis ∷ t.name file ∷ sign Comma ∷ ts) ≡ got (whole (save file e)) []
unfolding saving
save_reached file {ts} d f l =
    step (expect LeftParenthesis) _ (expected LeftParenthesis (t.name file ∷ sign Comma ∷ ts))
    ∙ step a_word _ (word_reached file (sign Comma ∷ ts))
    ∙ step (expect Comma) _ (expected Comma ts)
    ∙ step expression _ (expression_reached d f l (omega arith))
    ∙ step (expect RightParenthesis) _ (expected RightParenthesis [])

close_no_comma : (ts : List Terminal) → sees Comma (sign RightParenthesis ∷ ts) ≡ false
unfolding same_kind
close_no_comma ts = refl

one_bound_reached : (w : List ℕ) (e : Tree) (ts : List Terminal) → bound w e (sign RightParenthesis ∷ ts) ≡ got (loop_head w no_tree e) (sign RightParenthesis ∷ ts)
unfolding bound
one_bound_reached w e ts = step (eat Comma) _ (passed Comma (sign RightParenthesis ∷ ts) (close_no_comma ts))

two_bounds_reached : (w : List ℕ) (from : Tree) {ts rest : List Terminal} {to : Tree} → Spells expr ts (sign RightParenthesis ∷ rest) to → Fits 1 ts → height to ≤ 200 → bound w from (sign Comma ∷ ts) ≡ got (loop_head w (some_tree from) to) (sign RightParenthesis ∷ rest)
unfolding bound
two_bounds_reached w from {ts} d f l = step (eat Comma) _ (took Comma ts) ∙ step expression _ (expression_reached d f l (omega arith))

loop_reached : (w : List ℕ) (h : HeadTree) {ts us : List Terminal} {e : Tree} → Spells expr ts us e → Fits 1 ts → height e ≤ 200 → 8 < binds us → bound w e us ≡ got h (sign RightParenthesis ∷ sign Colon ∷ []) → looping (t.name w ∷ word In ∷ word Range ∷ sign LeftParenthesis ∷ ts) ≡ got h []
unfolding looping
loop_reached w h {ts} {us} {e} d f l stop k =
    step a_word _ (word_reached w (word In ∷ word Range ∷ sign LeftParenthesis ∷ ts))
    ∙ step (expect_word In) _ (expected_word In (word Range ∷ sign LeftParenthesis ∷ ts))
    ∙ step (expect_word Range) _ (expected_word Range (sign LeftParenthesis ∷ ts))
    ∙ step (expect LeftParenthesis) _ (expected LeftParenthesis ts)
    ∙ step expression _ (expression_reached d f l stop)
    ∙ step (bound w e) _ k
    ∙ step (expect RightParenthesis) _ (expected RightParenthesis (sign Colon ∷ []))
    ∙ step (expect Colon) _ (expected Colon [])

shallow_fits : (ts : List Terminal) → NestsAtMost 64 ts → Fits 0 ts
shallow_fits ts h = record { at = λ front rest e. let k : opened front ≤ 64 + closed front = h front rest e in omega arith }

-- behind a name and the index of a target, and its sign
fits_target : {w : List ℕ} {k : TokenKind} {ts us : List Terminal} {is : ItemTrees} → SpellsItems ts (sign RightBracket ∷ sign k ∷ us) is → Fits 0 (t.name w ∷ sign LeftBracket ∷ ts) → opens k ≡ 0 → closes k ≡ 0 → Fits 0 us
fits_target d f o c = fits_next (fits_out (fits_past (items_pass d) (fits_in (fits_next f refl refl) refl refl)) refl refl) o c

assign_opens : (k : TokenKind) (o : Arith) → assigning k ≡ Some o → opens k ≡ 0
assign_opens LeftParenthesis o h = absurd (cc)
assign_opens LeftBracket o h = absurd (cc)
assign_opens _ o h = refl

assign_closes : (k : TokenKind) (o : Arith) → assigning k ≡ Some o → closes k ≡ 0
assign_closes RightParenthesis o h = absurd (cc)
assign_closes RightBracket o h = absurd (cc)
assign_closes _ o h = refl

-- in the parentheses behind a word
fits_call : {w : Word} {ts : List Terminal} → Fits 0 (word w ∷ sign LeftParenthesis ∷ ts) → Fits 1 ts
fits_call f = fits_in (fits_next f refl refl) refl refl

fits_loop : {w : List ℕ} {ts : List Terminal} → Fits 0 (word For ∷ t.name w ∷ word In ∷ word Range ∷ sign LeftParenthesis ∷ ts) → Fits 1 ts
fits_loop f = fits_in (fits_next (fits_next (fits_next (fits_next f refl refl) refl refl) refl refl) refl refl) refl refl

by_name : (w : List ℕ) (h : HeadTree) (ts : List Terminal) → named w ts ≡ got h [] → head (t.name w ∷ ts) ≡ got h []
unfolding head
by_name w h ts k = k

by_word : (w : Word) (h : HeadTree) (ts : List Terminal) → worded w ts ≡ got h [] → head (word w ∷ ts) ≡ got h []
unfolding head
by_word w h ts k = k

reached_by : {ts : List Terminal} {h : HeadTree} → SpellsHead ts h → Fits 0 ts → head_height h ≤ 200 → head ts ≡ got h []
reached_by (a_bind {ts = us} w d) f l = by_name w _ (sign Equal ∷ us) (bind_reached w d (fits_next (fits_next f refl refl) refl refl) l)
reached_by (an_update {ts = us} w k o a d) f l = by_name w _ (sign k ∷ us) (update_reached w k o a d (fits_next (fits_next f refl refl) (assign_opens k o a) (assign_closes k o a)) l)
reached_by (a_put {ts = us} {i = i} {is = is} {e = e} w d x) f l =
    by_name w _ (sign LeftBracket ∷ us) (index_reached w _ d (fits_in (fits_next f refl refl) refl refl) (omega arith) (put_reached w (more_items i is) x (fits_target d f refl refl) (omega arith)))
reached_by (an_update_at {ts = us} {i = i} {is = is} {e = e} w k o a d x) f l =
    by_name w _ (sign LeftBracket ∷ us) (index_reached w _ d (fits_in (fits_next f refl refl) refl refl) (omega arith) (update_at_reached w (more_items i is) k o a x (fits_target d f (assign_opens k o a) (assign_closes k o a)) (omega arith)))
reached_by (a_print {ts = us} d) f l = by_word Print _ (sign LeftParenthesis ∷ us) (print_reached d (fits_call f) l)
reached_by (a_load w file) f l = by_name w _ _ (load_reached w file)
reached_by (a_save {ts = us} file d) f l = by_word Save _ (sign LeftParenthesis ∷ t.name file ∷ sign Comma ∷ us) (save_reached file d (fits_next (fits_next (fits_call f) refl refl) refl refl) l)
reached_by (a_loop_to {ts = us} {e = e} w d) f l = by_word For _ _ (loop_reached w _ d (fits_loop f) (omega arith) (omega arith) (one_bound_reached w e (sign Colon ∷ [])))
reached_by (a_loop {ts = us} {us = vs} {from = from} {to = to} w d x) f l =
    let j : Fits 1 vs = fits_next (fits_past (spans d).passes (fits_loop f)) refl refl in
    by_word For _ _ (loop_reached w _ d (fits_loop f) (omega arith) (omega arith) (two_bounds_reached w from x j (omega arith)))

-- what the terminals hold is found, with nothing left
pub head_reached : (ts : List Terminal) (h : HeadTree) → HoldsHead ts h → head ts ≡ got h []
head_reached ts h k = reached_by k.spelled (shallow_fits ts k.shallow) k.low

abbrev tree_in : HeadTree → Outcome HeadTree → HeadTree
tree_in other None = other
tree_in other (Some r) = r.0

same_found : (s t : HeadTree) → got s [] ≡ got t [] → s ≡ t
same_found s t e = ap (tree_in s) e

-- terminals hold one head at most
pub head_once : (ts : List Terminal) (s t : HeadTree) → HoldsHead ts s → HoldsHead ts t → s ≡ t
head_once ts s t h k = same_found s t (sym (head_reached ts s h) ∙ head_reached ts t k)

-- a head has no more nodes than terminals
pub head_small : {ts : List Terminal} {h : HeadTree} → SpellsHead ts h → head_nodes h ≤ length ts
head_small (a_bind {ts = us} {e = e} w d) = let p : nodes e + 0 ≤ length us = small d in omega arith
head_small (an_update {ts = us} {e = e} w k o a d) = let p : nodes e + 0 ≤ length us = small d in omega arith
head_small (a_put {ts = us} {us = vs} {i = i} {is = is} {e = e} w d x) = let p : item_nodes i + items_nodes is + suc (suc (length vs)) ≤ suc (length us) = small_items d in let q : nodes e + 0 ≤ length vs = small x in omega arith
head_small (an_update_at {ts = us} {us = vs} {i = i} {is = is} {e = e} w k o a d x) = let p : item_nodes i + items_nodes is + suc (suc (length vs)) ≤ suc (length us) = small_items d in let q : nodes e + 0 ≤ length vs = small x in omega arith
head_small (a_print {ts = us} {e = e} d) = let p : nodes e + 1 ≤ length us = small d in omega arith
head_small (a_load w file) = omega arith
head_small (a_save {ts = us} {e = e} file d) = let p : nodes e + 1 ≤ length us = small d in omega arith
head_small (a_loop_to {ts = us} {e = e} w d) = let p : nodes e + 2 ≤ length us = small d in omega arith
head_small (a_loop {ts = us} {us = vs} {from = from} {to = to} w d x) = let p : nodes from + suc (length vs) ≤ length us = small d in let q : nodes to + 2 ≤ length vs = small x in omega arith
