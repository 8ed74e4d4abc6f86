use Rattle.std.proofs.Common.{◌<◌, arith, sym, ◌∙◌}
use Rattle.lg_lex.proofs.FrontLemmas.{word_begins, number_begins, no_number, if_none}
use Rattle.lg_lex.proofs.lexing.first_token.Goals as goal

pub returns-then-is_letter-clause-found : goal.returns-then-is_letter-clause-found
returns-then-is_letter-clause-found c =
    word_begins c.args.rest.now c.run_length-run.result c.run_length-run.ensures.run c.run_length-run.ensures.within (sym c.is_letter.ensures ∙ c.if-is_letter.true)

pub returns-in_err-number_of-clause-none : goal.returns-in_err-number_of-clause-none
returns-in_err-number_of-clause-none c =
    let some : 0 < c.run_length-run.result = omega arith in
    if_none _ _ (no_number c.args.rest.now c.run_length-run.result c.run_length-run.ensures.run some (sym c.is_letter.ensures ∙ c.if-is_letter.false) c.in_err-number_of.ensures.none)

pub returns-clause-found : goal.returns-clause-found
returns-clause-found c =
    let some : 0 < c.run_length-run.result = omega arith in
    number_begins c.args.rest.now c.run_length-run.result c.in_ok-number_of.field-0 c.run_length-run.ensures.run some c.run_length-run.ensures.within c.in_ok-number_of.ensures.found c.in_ok-number_of.ensures.small
