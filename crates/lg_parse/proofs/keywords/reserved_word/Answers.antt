use Rattle.std.proofs.Common.{sym, ◌∙◌}
use Rattle.lg_parse.proofs.KeywordLemmas.{in_first, in_second, in_third}
use Rattle.lg_parse.proofs.keywords.reserved_word.Goals as goal

pub returns-in-Some : goal.returns-in-Some
returns-in-Some c = sym (in_first c.args.word.now c.in-Some.found (sym c.python_word.ensures ∙ c.in-Some.is))

pub returns-in-Some-language_word : goal.returns-in-Some-language_word
returns-in-Some-language_word c = sym (in_second c.args.word.now c.in-Some-language_word.found (sym c.python_word.ensures ∙ c.in-None.is) (sym c.language_word.ensures ∙ c.in-Some-language_word.is))

pub returns-in-None-language_word : goal.returns-in-None-language_word
returns-in-None-language_word c = c.function_word.ensures ∙ sym (in_third c.args.word.now (sym c.python_word.ensures ∙ c.in-None.is) (sym c.language_word.ensures ∙ c.in-None-language_word.is))
