use Rattle.lg_parse.proofs.keywords.language_word.Goals as goal

pub returns : goal.returns
returns c = rw c.as_slice.ensures at c.found_in.ensures
