use Rattle.std.proofs.Common.{◌≡◌, ◌<◌, ◌≤◌, ◌⊎◌, inl, inr, ⊎_elim, ◌∷◌, pos, to_z, of_z, w64, rules, refl, sym, ap, subst, ◌∙◌, arith}
use Rattle.lg_shape.specs.Shapes.{size_of}
use Rattle.lg_operations.specs.Gathering.{AreRows}
use Rattle.lg_operations.proofs.Gatherings.{some_factors, rest_most, rows_next}
use Rattle.lg_operations.proofs.gathering.+rows_of.Goals as goal

pub rows_of-requires : goal.rows_of-requires
rows_of-requires t c =
    let inner = c.in-Some.extents.now in
    let both = some_factors c.in-Some.extent.now (size_of inner) (subst (λ es. 0 < size_of es) c.in-Some.ensures.cases.0 c.requires.some) in
    (search rules, (both.1, omega (arith, rest_most c.in-Some.extent.now (size_of inner) both.0, ap size_of c.in-Some.ensures.cases.0, c.requires.small)))

pub returns-clause-rows : goal.returns-clause-rows
returns-clause-rows t c =
    let stride = c.in_ok-stride.stride.now in
    let strides = c.in_ok-stride.strides.now in
    let extent = c.in-Some.extent.now in
    let inner = c.in-Some.extents.now in
    let kept : stride ≡ to_z w64 (of_z w64 stride) = search rules in
    let either : (extent ≤ 1) ⊎ (stride ≡ pos (size_of inner)) = ⊎_elim (λ h. inl h) (λ e. inr (kept ∙ e ∙ ap pos c.in_ok-size.ensures.size)) (c.if-not-is_row.ensures refl) in
    subst (λ ss. AreRows ss c.args.extents.now) (sym c.in_ok-stride.ensures.cases.0)
    (subst (λ es. AreRows (stride ∷ strides) es) (sym c.in-Some.ensures.cases.0) (rows_next stride strides extent inner either c.in_ok-size.ensures.rows))
