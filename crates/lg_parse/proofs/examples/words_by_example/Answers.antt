use Rattle.std.proofs.Common.{refl}
use Rattle.lg_parse.specs.Keywords.{keyword_of}
use Rattle.lg_parse.proofs.examples.words_by_example.Goals as goal

pub returns-clause-keyword : goal.returns-clause-keyword
unfolding keyword_of
returns-clause-keyword c = refl

pub returns-clause-last_keyword : goal.returns-clause-last_keyword
unfolding keyword_of
returns-clause-last_keyword c = refl

pub returns-clause-none : goal.returns-clause-none
unfolding keyword_of
returns-clause-none c = refl

pub returns-clause-range : goal.returns-clause-range
unfolding keyword_of
returns-clause-range c = refl

pub returns-clause-element_type : goal.returns-clause-element_type
unfolding keyword_of
returns-clause-element_type c = refl

pub returns-clause-reduction : goal.returns-clause-reduction
unfolding keyword_of
returns-clause-reduction c = refl

pub returns-clause-last_function : goal.returns-clause-last_function
unfolding keyword_of
returns-clause-last_function c = refl

pub returns-clause-method : goal.returns-clause-method
unfolding keyword_of
returns-clause-method c = refl

pub returns-clause-turned : goal.returns-clause-turned
unfolding keyword_of
returns-clause-turned c = refl

pub returns-clause-beginning : goal.returns-clause-beginning
unfolding keyword_of
returns-clause-beginning c = refl

pub returns-clause-capital : goal.returns-clause-capital
unfolding keyword_of
returns-clause-capital c = refl

pub returns-clause-float : goal.returns-clause-float
unfolding keyword_of
returns-clause-float c = refl
