use Rattle.std.proofs.Common.{◌≡◌, ◌∙◌, ℕ, ℤ, [], ◌∷◌, ap, refl, List, None, Some, codes, map, negsuc, pos}
use Rattle.std.specs.Fmt.{digits}
use Rattle.std.specs.FinMap.{gets, insert}
use Rattle.lg_meaning.specs.Examples.{a_stands, a_view, counted_to, cut, indexed_by, put_at, whole_axis}
use Rattle.lg_meaning.specs.Memory.{Names, writable}
use Rattle.lg_meaning.specs.Run.{Progress, Run, beginning, done, run_line, run_lines, run_of, turn_from, turns}
use Rattle.lg_tree.specs.Tree.{LineTrees, arith, bind, loop, more_lines, name, no_lines, no_tree, number, print}
use Rattle.lg_tree.specs.declared.kinds.Arith.TheVariants.{Add}
use Rattle.lg_meaning.specs.Memory as bound
use Rattle.lg_meaning.specs.Weak as weak
use Rattle.lg_meaning.proofs.examples.scripts.array_scripts_by_example.Goals as goal

pub returns-clause-least_of_nothing : goal.returns-clause-least_of_nothing
unfolding digits
returns-clause-least_of_nothing c = simp gets

pub returns-clause-index : goal.returns-clause-index
unfolding digits
returns-clause-index c = simp gets

pub returns-clause-five_axes : goal.returns-clause-five_axes
returns-clause-five_axes c = simp gets

pub returns-clause-step : goal.returns-clause-step
returns-clause-step c = simp gets

pub returns-clause-reshaped : goal.returns-clause-reshaped
unfolding digits
returns-clause-reshaped c = refl

pub returns-clause-reduced : goal.returns-clause-reduced
unfolding digits
returns-clause-reduced c = simp gets

pub returns-clause-taken : goal.returns-clause-taken
unfolding digits
returns-clause-taken c = simp gets

pub returns-clause-products : goal.returns-clause-products
unfolding digits
returns-clause-products c = simp gets

pub returns-clause-stencilled : goal.returns-clause-stencilled
unfolding digits
returns-clause-stencilled c = refl

-- ---- the script of neighbours, statement by statement

abbrev body : LineTrees
body = more_lines 5 (put_at (codes "c") (whole_axis ∷ [])
    (arith Add (name (codes "c")) (name (codes "n")))) no_lines

abbrev last_line : LineTrees
last_line = more_lines 5 (print (name (codes "a"))) no_lines

abbrev last_two : LineTrees
last_two = more_lines 4 (loop (codes "t") no_tree (number 2) body) last_line

abbrev last_three : LineTrees
last_three = more_lines 3 (bind (codes "n")
    (indexed_by (name (codes "a")) (cut None (Some (negsuc 0)) ∷ []))) last_two

abbrev last_four : LineTrees
last_four = more_lines 2 (bind (codes "c")
    (indexed_by (name (codes "a")) (cut (Some (pos 1)) None ∷ []))) last_three

-- the names after each statement that binds one, and in both turns
abbrev with_a : Names
with_a = (a_stands (4 ∷ []) []).names

abbrev with_c : Names
with_c = insert with_a (codes "c") (bound.array (a_view (3 ∷ []) writable (1 ∷ 2 ∷ 3 ∷ [])))

abbrev with_n : Names
with_n = insert with_c (codes "n") (bound.array (a_view (3 ∷ []) writable (0 ∷ 1 ∷ 2 ∷ [])))

abbrev in_first_turn : Names
in_first_turn = insert with_n (codes "t") (bound.weak (weak.integer (pos 0)))

abbrev in_second_turn : Names
in_second_turn = insert in_first_turn (codes "t") (bound.weak (weak.integer (pos 1)))

-- so many statements were reached, and the array has these elements
abbrev reached : ℕ → List ℕ → Names → Progress
reached n xs names = record {
  state = record { memory = (a_stands (4 ∷ []) (map pos xs)).memory; names = names };
  count = n;
  text = [];
  end = done;
}

first : run_line 1 (bind (codes "a") (counted_to 4)) beginning
    ≡ reached 1 (0 ∷ 1 ∷ 2 ∷ 3 ∷ []) with_a
first = refl

second : run_line 2 (bind (codes "c")
    (indexed_by (name (codes "a")) (cut (Some (pos 1)) None ∷ [])))
    (reached 1 (0 ∷ 1 ∷ 2 ∷ 3 ∷ []) with_a) ≡ reached 2 (0 ∷ 1 ∷ 2 ∷ 3 ∷ []) with_c
second = simp gets

third : run_line 3 (bind (codes "n")
    (indexed_by (name (codes "a")) (cut None (Some (negsuc 0)) ∷ [])))
    (reached 2 (0 ∷ 1 ∷ 2 ∷ 3 ∷ []) with_c) ≡ reached 3 (0 ∷ 1 ∷ 2 ∷ 3 ∷ []) with_n
third = simp gets

first_turn : run_lines body (turn_from (codes "t") (pos 0) (reached 4 (0 ∷ 1 ∷ 2 ∷ 3 ∷ []) with_n))
    ≡ reached 5 (0 ∷ 1 ∷ 3 ∷ 5 ∷ []) in_first_turn
first_turn = simp gets

second_turn : run_lines body
    (turn_from (codes "t") (pos 1) (reached 5 (0 ∷ 1 ∷ 3 ∷ 5 ∷ []) in_first_turn))
    ≡ reached 6 (0 ∷ 1 ∷ 4 ∷ 8 ∷ []) in_second_turn
second_turn = simp gets

abbrev turns_left : ℕ → ℤ → Progress → Progress
turns_left n v p = turns (run_lines body) (codes "t") n v p

both_turns : run_line 4 (loop (codes "t") no_tree (number 2) body)
    (reached 3 (0 ∷ 1 ∷ 2 ∷ 3 ∷ []) with_n) ≡ reached 6 (0 ∷ 1 ∷ 4 ∷ 8 ∷ []) in_second_turn
both_turns = ap (turns_left 1 (pos 1)) first_turn ∙ ap (turns_left 0 (pos 2)) second_turn

abbrev ending : LineTrees → Progress → Run
ending ls p = run_of (run_lines ls p)

shown : ending last_line (reached 6 (0 ∷ 1 ∷ 4 ∷ 8 ∷ []) in_second_turn)
    ≡ record { text = codes "[0, 1, 4, 8]\n"; end = done }
unfolding digits
shown = simp gets

pub returns-clause-neighbours : goal.returns-clause-neighbours
returns-clause-neighbours c = ap (ending last_four) first ∙ (ap (ending last_three) second
    ∙ (ap (ending last_two) third ∙ (ap (ending last_line) both_turns ∙ shown)))
