use Rattle.std.proofs.Common.{List, ℕ, Contains, sym, subst}
use Rattle.std.proofs.lemmas.List.Filters.{dedup_is}
use Rattle.std.proofs.lemmas.List.Kept.{Contains-dedup_nat, Contains-from_dedup}
use Rattle.std.proofs.lemmas.List.Sorted.{Contains-permutation, IsPermutation-sym}
use Rattle.std.proofs.lemmas.Map.Keys.{IsStrictlyIncreasing-dedup}
use Rattle.lg_store.proofs.view.reachable.Goals as goal

pub returns-clause-ascending : goal.returns-clause-ascending
returns-clause-ascending c =
    let is = dedup_is _ _ _ c.dedup.ensures.filtered in
    rw is (IsStrictlyIncreasing-dedup _ c.sort_unstable.ensures.sorted)

pub returns-clause-exact : goal.returns-clause-exact
returns-clause-exact c = λ root.
    let is = dedup_is _ _ _ c.dedup.ensures.filtered in
    let moved = c.sort_unstable.ensures.permutation in (
      λ h. subst (λ (l : List ℕ). Contains l root) c.in_ok-roots.ensures
          (Contains-permutation _ _ root (IsPermutation-sym _ _ moved) (Contains-from_dedup _ _ root (rw is at h))),
      λ h. rw is (Contains-dedup_nat _ root (Contains-permutation _ _ root moved (subst (λ (l : List ℕ). Contains l root) (sym c.in_ok-roots.ensures) h))),
    )
