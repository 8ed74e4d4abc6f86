use Rattle.std.specs.Prelude.{string_bytes}
use Rattle.legate.proofs.WordLemmas.{one_word}
use Rattle.legate.proofs.command.is_one_word.Goals as goal

pub returns-then-words-eq1 : goal.returns-then-words-eq1
returns-then-words-eq1 c =
    one_word string_bytes c.args.words.now _ _ _ c.eq.result c.if-words-eq1.true c.index-words-0.is c.as_str.ensures.value c.eq.ensures
