use Rattle.std.proofs.Common.{◌≡◌, List, [], refl, sym, ◌∙◌, subst, vec_len}
use Rattle.std.proofs.lemmas.Bool.{eqb-false}
use Rattle.lg_parse.specs.Lexed.{terminals_of}
use Rattle.lg_parse.specs.ParsingHeads.{EndsHead}
use Rattle.lg_parse.specs.Reading.{terminals_view}
use Rattle.lg_parse.specs.Terminal.{Terminal}
use Rattle.lg_parse.specs.declared.ends.ParseEnd.TheVariants.{Syntax}
use Rattle.lg_grammar.proofs.Found.{lexes_nothing, indented_nothing, unspelled_nothing, some_tokens, few_nodes}
use Rattle.lg_grammar.proofs.lines.read_line.Goals as goal

pub returns-in-Err-Fault-clause-end : goal.returns-in-Err-Fault-clause-end
returns-in-Err-Fault-clause-end c = (refl, lexes_nothing c.args.line.now (rw c.in-Err-Fault.field-0-is at c.in-Err-Fault.ensures.none))

pub returns-in_default-clause-end : goal.returns-in_default-clause-end
returns-in_default-clause-end c =
    let some : c.in-Ok.tokens.items ≡ [] → ⊥ = some_tokens c.in-Ok.tokens.items (vec_len c.in-Ok.tokens) c.in-Ok.tokens.ok.0 (eqb-false (vec_len c.in-Ok.tokens) 0 (sym c.is_empty.ensures ∙ c.if-is_empty.false)) in
    (refl, indented_nothing c.args.line.now c.in-Ok.tokens.items c.in-Ok.ensures.tokens some c.in_default.ensures.none)

pub returns-in-Ok-read_head-clause-small : goal.returns-in-Ok-read_head-clause-small
returns-in-Ok-read_head-clause-small c =
    let view : terminals_view c.in-Ok-as_terminals.terminals.items ≡ terminals_of c.args.line.now c.in-Ok.tokens.items = rw c.deref.ensures.value at c.in-Ok-as_terminals.ensures in
    few_nodes c.args.line.now c.in-Ok.tokens.items c.in-Ok-as_terminals.terminals.items _ view c.in-Ok.ensures.tokens (rw c.deref-2.ensures.value at c.in-Ok-read_head.ensures.small)

pub returns-in-Err-Syntax-clause-end : goal.returns-in-Err-Syntax-clause-end
returns-in-Err-Syntax-clause-end c =
    let some : c.in-Ok.tokens.items ≡ [] → ⊥ = some_tokens c.in-Ok.tokens.items (vec_len c.in-Ok.tokens) c.in-Ok.tokens.ok.0 (eqb-false (vec_len c.in-Ok.tokens) 0 (sym c.is_empty.ensures ∙ c.if-is_empty.false)) in
    let view : terminals_view c.in-Ok-as_terminals.terminals.items ≡ terminals_of c.args.line.now c.in-Ok.tokens.items = rw c.deref.ensures.value at c.in-Ok-as_terminals.ensures in
    (refl, unspelled_nothing c.args.line.now c.in-Ok.tokens.items c.in-Ok.ensures.tokens some (subst (λ (ts : List Terminal). EndsHead ts Syntax) view (rw (c.deref-2.ensures.value, c.in-Err-Syntax.field-0-is) at c.in-Err-Syntax.ensures.end)))
