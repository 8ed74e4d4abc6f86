-- Ranges with a filler behind them are kept as a rectangle.
use Rattle.std.proofs.Common.{◌≡◌, ℕ, ◌-◌, ◌≤◌, List, ◌++◌, length, take, drop, replicate, sym, ap, subst, ◌∙◌}
use Rattle.std.proofs.lemmas.List.{drop-replicate}
use Rattle.std.proofs.Math.Seq.{take-append_seam}
use Rattle.lg_space.specs.declared.point.TheConstants.{MAX_AXES}
use Rattle.lg_space.specs.Stored.{padded, IsStorable, IsRect}

-- ranges that are copied over the filler
pub filled : (ranges copied : List (ℕ × ℕ)) → copied ≡ ranges → copied ++ drop (length ranges) (replicate MAX_AXES (0, 0)) ≡ padded (0, 0) ranges
filled ranges copied same =
    ap (λ l. l ++ drop (length ranges) (replicate MAX_AXES (0, 0))) same ∙ ap (λ l. ranges ++ l) (drop-replicate (length ranges) MAX_AXES (0, 0))

-- the ranges in front of the filler
pub front : (axes : ℕ) (ranges kept : List (ℕ × ℕ)) → length ranges ≡ axes → kept ≡ padded (0, 0) ranges → take axes kept ≡ ranges
front axes ranges kept count same =
    ap (λ n. take n kept) (sym count) ∙ ap (take (length ranges)) same ∙ take-append_seam ranges (replicate (MAX_AXES - length ranges) (0, 0))

pub is_rect : (axes : ℕ) (ranges kept : List (ℕ × ℕ)) → length ranges ≡ axes → IsStorable ranges → kept ≡ padded (0, 0) ranges → IsRect axes kept
is_rect axes ranges kept count h same = record {
  few = subst (λ n. n ≤ MAX_AXES) count h.axes;
  filled = same ∙ ap (padded (0, 0)) (sym (front axes ranges kept count same));
  storable = subst IsStorable (sym (front axes ranges kept count same)) h;
}
