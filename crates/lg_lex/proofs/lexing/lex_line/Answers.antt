use Rattle.std.proofs.Common.{◌≡◌, ◌++◌, ◌∷◌, [], ℕ, List, not, inl, inr, sym, ap, ◌∙◌, subst, arith}
use Rattle.std.proofs.lemmas.Bool.{cond-true}
use Rattle.lg_lex.specs.Line.{Holds, EndsAt, Reads, IsFault}
use Rattle.lg_lex.specs.declared.tokens.Token.{Token}
use Rattle.lg_lex.proofs.LineLemmas.{holds_blank, holds_token, stands_push, reads_once, fault_none}
use Rattle.lg_lex.proofs.lexing.lex_line.Goals as goal
use Rattle.lg_lex.proofs.lexing.lex_line.Goals.{then-loop-place-test+else-not-begins_comment, else-loop-place-test}

pub loop-place-preserved-then-is_blank : goal.loop-place-preserved-then-is_blank
loop-place-preserved-then-is_blank c = record {
  within = omega arith;
  inside = c.loop-place.invariant.inside;
  holds = holds_blank c.args.line.now 0 c.loop-place.tokens.items c.loop-place.place (sym c.is_blank.ensures ∙ c.if-is_blank.true) c.loop-place.invariant.holds;
}

pub returns-in_default-clause-none : goal.returns-in_default-clause-none
returns-in_default-clause-none c =
    let fault : IsFault c.args.line.now c.loop-place.place = record {
      front = c.loop-place.tokens.items;
      holds = c.loop-place.invariant.holds;
      inside = omega arith;
      solid = sym c.is_blank.ensures ∙ c.if-is_blank.false;
      plain = sym c.begins_comment.ensures ∙ c.if-not-begins_comment.true;
      none = c.in_default.ensures.none;
    } in
    fault_none c.args.line.now c.loop-place.place fault

pub loop-place-preserved : goal.loop-place-preserved
loop-place-preserved c =
    let line = c.args.line.now in
    let done = c.loop-place.tokens.items in
    let next = c.in-Some.token in
    let pushed : c.push.new.self.items ≡ done ++ next ∷ [] = c.push.ensures.items ∙ cond-true _ _ _ (c.is_err.ensures.negation ∙ ap not c.if-is_err.false) in
    let here : Holds line 0 done next.start = subst (λ (i : ℕ). Holds line 0 done i) (sym c.in-Some.ensures.here) c.loop-place.invariant.holds in
    record {
      within = c.in-Some.ensures.found.within;
      inside = stands_push line done c.push.new.self.items next pushed c.in-Some.ensures.found c.loop-place.invariant.inside;
      holds = subst (λ (z : List Token). Holds line 0 z next.end) (sym pushed) (holds_token line 0 done next c.in-Some.ensures.found here);
    }

-- a loop that stops does so at the end of the line, or where a comment begins
stopped : (c : goal.Left-loop-place) → EndsAt c.args.line.now c.loop-place.place
stopped c =
    elim c.loop-place-test.branch [
      | then-loop-place-test+else-not-begins_comment w ↦ inr (omega arith, sym w.begins_comment.ensures ∙ w.if-not-begins_comment.false)
      | else-loop-place-test w ↦ inl (omega arith)
    ]

whole : (c : goal.Left-loop-place) → Reads c.args.line.now c.loop-place.tokens.items
whole c = record { end = c.loop-place.place; holds = c.loop-place.invariant.holds; ends = stopped c }

pub returns-clause-tokens : goal.returns-clause-tokens
returns-clause-tokens c = whole c

pub returns-clause-only : goal.returns-clause-only
returns-clause-only c = λ other h. reads_once c.args.line.now other c.loop-place.tokens.items h (whole c)
