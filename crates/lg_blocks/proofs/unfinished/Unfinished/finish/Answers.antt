use Rattle.std.proofs.Common.{◌≡◌, length, sym, ◌∙◌}
use Rattle.std.proofs.lemmas.Bool.{false≢true}
use Rattle.lg_tree.specs.View.{lines_of}
use Rattle.lg_blocks.proofs.States.{some_line, ends_open, all_ended, closed_first, closed_behind, not_named, whole_read}
use Rattle.lg_blocks.proofs.unfinished.Unfinished.finish.Goals as goal

pub close-requires-clause-begun : goal.close-requires-clause-begun
close-requires-clause-begun c =
    λ less. some_line c.args.self.lines (λ e. false≢true (sym c.if-is_empty.false ∙ c.is_empty.ensures.1 e))

pub returns-in-Some : goal.returns-in-Some
returns-in-Some c =
    let u = c.args.self in
    record {
      rows = tt;
      full = tt;
      closed = tt;
      named = ends_open _ u.loops.items c.pop.new.self.items c.in-Some.last c.pop.result u.lines c.pop.ensures.items c.in-Some.is (c.is_empty.ensures.0 c.if-is_empty.true);
    }

pub returns-in-None : goal.returns-in-None
returns-in-None c =
    let u = c.args.self in
    let none : length u.loops.items ≡ 0 = sym u.loops.ok.0 ∙ c.in-None.ensures.cases.0 in
    let closed = closed_first u.loops.items u.lines none (c.is_empty.ensures.0 c.if-is_empty.true) in
    record {
      rows = all_ended u.loops.items (lines_of u.lines) none;
      full = c.requires.full.1;
      closed = closed;
      named = not_named _ _ _ closed (λ n e. cc);
    }

pub returns-in-Ok : goal.returns-in-Ok
returns-in-Ok c =
    let u = c.args.self in
    let v = c.close.new.self in
    let closed = closed_behind u.loops.items u.lines c.requires.end (λ e. false≢true (sym c.if-is_empty.false ∙ c.is_empty.ensures.1 e)) in
    record {
      rows = whole_read u.loops.items v.loops.items (lines_of u.lines) (lines_of v.lines) c.in-Ok.ensures.rows c.in-Ok.ensures.deep;
      full = c.in-Ok.ensures.full.1;
      closed = closed;
      named = not_named _ _ _ closed (λ n e. cc);
    }

pub returns-in-Err : goal.returns-in-Err
returns-in-Err c =
    let u = c.args.self in
    record {
      rows = tt;
      full = tt;
      closed = tt;
      named = not_named _ _ _ (closed_behind u.loops.items u.lines c.requires.end (λ e. false≢true (sym c.if-is_empty.false ∙ c.is_empty.ensures.1 e))) (λ n e. cc);
    }
