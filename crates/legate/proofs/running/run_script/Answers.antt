use Rattle.legate.proofs.Scripts.{script_done, script_stopped}
use Rattle.legate.proofs.running.run_script.Goals as goal

pub returns-clause-done : goal.returns-clause-done
returns-clause-done g c =
    script_done c.args.script.now.lines c.as_slice.result.now c.as_slice.ensures c.run_lines.new.count _ _ c.in-Ok.session c.run_lines.new.session c.in-Ok.ensures.start c.run_lines.ensures.few
    c.run_lines.result c.run_lines.ensures.done

pub returns-clause-stopped : goal.returns-clause-stopped
returns-clause-stopped g c =
    script_stopped c.args.script.now.lines c.as_slice.result.now c.as_slice.ensures c.run_lines.new.count _ _ c.in-Ok.session c.run_lines.new.session c.in-Ok.ensures.start c.run_lines.ensures.few
    c.run_lines.result c.run_lines.ensures.stopped c.run_lines.ensures.cut
