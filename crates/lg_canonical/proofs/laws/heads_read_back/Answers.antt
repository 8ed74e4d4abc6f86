use Rattle.std.proofs.Common.{List, [], ◌++◌, sym, subst}
use Rattle.lg_parse.specs.Terminal.{Terminal}
use Rattle.lg_parse.specs.Statements.{SpellsHead}
use Rattle.lg_canonical.specs.Heads.{head_line}
use Rattle.lg_canonical.proofs.Readings.{Reading, nothing, whole_line}
use Rattle.lg_canonical.proofs.Goods.{are_good}
use Rattle.lg_canonical.proofs.Lines.{line_read}
use Rattle.lg_canonical.proofs.laws.heads_read_back.Goals as goal

pub returns : goal.returns
returns c = λ line h d.
    let x = line_read d.1.1 (are_good line d.0 d.1.0) in
    let r : Reading (head_line h) (x.put []) = whole_line (head_line h) (x.put []) (x.runs.run [] [] tt nothing) in
    (r.tokens, (r.reads, subst (λ (ts : List Terminal). SpellsHead ts h) (sym r.are) x.spelled))
