use Rattle.std.proofs.Common.{List, [], ◌++◌, sym, subst}
use Rattle.lg_parse.specs.Terminal.{Terminal}
use Rattle.lg_parse.specs.Expressions.{Spells, expr}
use Rattle.lg_text.specs.Text.{text}
use Rattle.lg_canonical.proofs.Readings.{Reading, nothing, whole_line}
use Rattle.lg_canonical.proofs.Goods.{are_good}
use Rattle.lg_canonical.proofs.Derived.{expression_read}
use Rattle.lg_canonical.proofs.laws.expressions_read_back.Goals as goal

pub returns : goal.returns
returns c = λ line e h.
    let x = (expression_read h.1.1 (are_good line h.0 h.1.0)).0 in
    let r : Reading (text e) (x.whole.put []) = whole_line (text e) (x.whole.put []) (x.whole.runs.run [] [] tt nothing) in
    (r.tokens, (r.reads, subst (λ (ts : List Terminal). Spells expr ts [] e) (sym r.are) (x.whole.spelled [])))
