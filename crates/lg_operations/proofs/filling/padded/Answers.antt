use Rattle.std.proofs.Common.{◌≡◌, ℕ, ◌+◌, ◌≤◌, List, [], ◌∷◌, ◌++◌, length, take, replicate, refl, ap, ◌∙◌, arith, rules}
use Rattle.std.proofs.lemmas.List.{take-replicate}
use Rattle.std.proofs.lemmas.Slice.{take-put_mid}
use Rattle.lg_meaning.specs.Assignments.{surplus}
use Rattle.lg_operations.proofs.filling.padded.Goals as goal

pub returns : goal.returns
returns c =
    let own = c.args.own.now in
    let shape = c.args.shape.now in
    let k : ℕ = c.saturating_sub-surplus.result in
    let given : c.copy_from_slice.new.self ≡ shape = search rules in
    let surplus_is : k ≡ surplus own shape = search rules in
    let few : k ≤ 4 = omega (arith, surplus_is, c.extents.ensures.shape.axes) in
    let row : List ℕ = 1 ∷ 1 ∷ 1 ∷ 1 ∷ [] in
    let four : row ≡ replicate 4 1 = refl in
    let end : k + length c.extents-3.result.now ≡ k + length c.copy_from_slice.new.self = omega (arith, ap length given, ap length c.extents-3.ensures.value) in
    c.new.ensures ∙ take-put_mid k _ row c.copy_from_slice.new.self _ end few
    ∙ ap (take k row ++◌) given ∙ ap (λ l. take k l ++ shape) four ∙ ap (λ l. l ++ shape) (take-replicate k 4 1 few) ∙ ap (λ n. replicate n 1 ++ shape) surplus_is
