use Rattle.std.proofs.Common.{sym, ◌∙◌}
use Rattle.lg_lex.proofs.FrontLemmas.{three_begins, two_begins, one_begins, no_operator, if_none}
use Rattle.lg_lex.proofs.lexing.operator.Goals as goal

pub returns-in-Some-clause-found : goal.returns-in-Some-clause-found
returns-in-Some-clause-found c = three_begins c.args.rest.now c.in-Some.kind c.requires (sym c.three_in_front.ensures ∙ c.in-Some.is)

pub returns-in-Some-two_in_front-clause-found : goal.returns-in-Some-two_in_front-clause-found
returns-in-Some-two_in_front-clause-found c =
    two_begins c.args.rest.now c.in-Some-two_in_front.kind c.requires (sym c.three_in_front.ensures ∙ c.in_default.is) (sym c.two_in_front.ensures ∙ c.in-Some-two_in_front.is)

pub returns-in_err-one_in_front-clause-none : goal.returns-in_err-one_in_front-clause-none
returns-in_err-one_in_front-clause-none c =
    if_none _ _ (no_operator c.args.rest.now c.requires (sym c.three_in_front.ensures ∙ c.in_default.is) (sym c.two_in_front.ensures ∙ c.in_default-two_in_front.is) (sym c.one_in_front.ensures ∙ c.in_err-one_in_front.was))

pub returns-clause-found : goal.returns-clause-found
returns-clause-found c =
    one_begins c.args.rest.now c.in_ok-one_in_front.field-0 c.requires (sym c.three_in_front.ensures ∙ c.in_default.is) (sym c.two_in_front.ensures ∙ c.in_default-two_in_front.is) (sym c.one_in_front.ensures ∙ c.in_ok-one_in_front.was)
