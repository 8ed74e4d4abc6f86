use Rattle.std.proofs.Common.{codes, [], ◌∷◌, refl, arith, inl, inr}
use Rattle.lg_lex.proofs.LineLemmas.{fault_none}
use Rattle.lg_lex.proofs.ReaderLemmas.{example}
use Rattle.lg_tree.specs.Heads.{whole}
use Rattle.lg_blocks.specs.Rows.{row}
use Rattle.lg_grammar.specs.Examples.{loads, over_i}
use Rattle.lg_grammar.specs.Script.{ended, skipped, held}
use Rattle.lg_grammar.proofs.Found.{lexes_nothing, misplaced}
use Rattle.lg_grammar.proofs.Samples.{the_load, the_inner, the_second, the_loop}
use Rattle.lg_grammar.proofs.examples.first_bad_by_example.Goals as goal

pub returns-clause-empty_block : goal.returns-clause-empty_block
returns-clause-empty_block c = inl (record {
  front = codes "for i in range(3):" ∷ [];
  line = codes "x = load(f)";
  behind = [] ∷ [];
  read = row 1 0 over_i ∷ [];
  cut = refl;
  counted = refl;
  good = held the_loop ended;
  placed = (refl, tt);
  bad = misplaced (codes "x = load(f)") 0 (whole loads) (row 1 0 over_i ∷ []) the_load (λ may. omega arith);
})

pub returns-clause-open_end : goal.returns-clause-open_end
returns-clause-open_end c = inr (record {
  read = row 1 0 (whole loads) ∷ row 2 0 over_i ∷ [];
  good = held the_load (held the_loop (skipped (example (codes "    # a")) (skipped (example []) ended)));
  placed = (refl, (omega arith, tt));
  unended = (λ w. w, refl);
})

pub returns-clause-indented : goal.returns-clause-indented
returns-clause-indented c = inl (record {
  front = [];
  line = codes "    x = load(f)";
  behind = codes "x = load(f)" ∷ [] ∷ [];
  read = [];
  cut = refl;
  counted = refl;
  good = ended;
  placed = tt;
  bad = misplaced (codes "    x = load(f)") 1 (whole loads) [] the_inner (λ may. omega arith);
})

pub returns-clause-no_block : goal.returns-clause-no_block
returns-clause-no_block c = inl (record {
  front = codes "x = load(f)" ∷ [] ∷ [];
  line = codes "    x = load(f)";
  behind = [] ∷ [];
  read = row 1 0 (whole loads) ∷ [];
  cut = refl;
  counted = refl;
  good = held the_load (skipped (example []) ended);
  placed = (refl, tt);
  bad = misplaced (codes "    x = load(f)") 1 (whole loads) (row 1 0 (whole loads) ∷ []) the_inner (λ may. omega arith);
})

pub returns-clause-two_deeper : goal.returns-clause-two_deeper
returns-clause-two_deeper c = inl (record {
  front = codes "for i in range(3):" ∷ [];
  line = codes "        x = load(f)";
  behind = [] ∷ [];
  read = row 1 0 over_i ∷ [];
  cut = refl;
  counted = refl;
  good = held the_loop ended;
  placed = (refl, tt);
  bad = misplaced (codes "        x = load(f)") 2 (whole loads) (row 1 0 over_i ∷ []) the_second (λ may. omega arith);
})

pub returns-clause-fault : goal.returns-clause-fault
returns-clause-fault c =
    let nothing = lexes_nothing (codes "?") (fault_none (codes "?") 0 (example (codes "?"))) in
    inl (record {
      front = codes "x = load(f)" ∷ [];
      line = codes "?";
      behind = codes "    x = load(f)" ∷ [] ∷ [];
      read = row 1 0 (whole loads) ∷ [];
      cut = refl;
      counted = refl;
      good = held the_load ended;
      placed = (refl, tt);
      bad = record { not_skipped = nothing.not_skipped; no_place = λ d h x may. nothing.no_head d h x };
    })
