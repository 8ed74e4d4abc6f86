use Rattle.std.proofs.Common.{◌≡◌, ℕ, List, [], ◌∷◌, refl, sym, ap, ◌∙◌, subst}
use Rattle.std.specs.List.{AllByRecursion}
use Rattle.lg_tree.specs.Tree.{LineTrees, no_lines, more_lines, line_trees}
use Rattle.lg_text.specs.Text.{script_text}
use Rattle.lg_blocks.specs.Rows.{Row, rows_of, IsFull}
use Rattle.lg_blocks.specs.Renumbering.{renumbered, numbered}
use Rattle.lg_blocks.proofs.Counted.{rows_numbered, still_full}
use Rattle.lg_grammar.specs.Script.{lines_of, HoldsRows}
use Rattle.lg_canonical.specs.Laws.{line_list, numbered_script}
use Rattle.lg_canonical.proofs.Rows.{lines_rows}
use Rattle.lg_canonical.proofs.Scripts.{rows_read, row_lines, cut, rows_held, LineShallow}
use Rattle.lg_canonical.proofs.laws.scripts_read_back.Goals as goal

listed : (ls : LineTrees) → line_trees (line_list ls) ≡ ls
listed no_lines = refl
listed (more_lines n s ls) = ap (λ (z : LineTrees). more_lines n s z) (listed ls)

pub returns : goal.returns
returns c = λ bytes script spelled shallow.
    let trees : LineTrees = line_trees script in
    let rows : List Row = rows_of 0 trees in
    let pieces = rows_read spelled.rows in
    let lines : lines_of (script_text script) ≡ row_lines rows = ap lines_of (lines_rows 0 trees) ∙ cut rows pieces in
    let held : HoldsRows 1 (row_lines rows) (numbered 1 rows) = rows_held 1 rows pieces (subst (λ (ls : List (List ℕ)). AllByRecursion LineShallow ls) lines shallow) in
    let same : numbered 1 rows ≡ rows_of 0 (line_trees (numbered_script script)) = sym (rows_numbered 0 1 trees) ∙ ap (λ (z : LineTrees). rows_of 0 z) (sym (listed (renumbered 1 trees))) in
    record {
      rows = subst (λ (ls : List (List ℕ)). HoldsRows 1 ls (rows_of 0 (line_trees (numbered_script script)))) (sym lines) (subst (λ (rs : List Row). HoldsRows 1 (row_lines rows) rs) same held);
      full = subst (λ (z : LineTrees). IsFull z) (sym (listed (renumbered 1 trees))) (still_full 1 trees spelled.full);
    }
