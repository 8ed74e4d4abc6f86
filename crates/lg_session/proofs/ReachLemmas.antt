-- Whether a name reaches a root, from the values of the map.
use Rattle.std.proofs.Common.{◌≡◌, ℕ, suc, Bool, true, ◌||◌, List, [], ◌∷◌, Some, slice_get, option_map, refl, sym, ap, ◌∙◌, ⊎_elim, Vec, eqb-true, eq-eqb}
use Rattle.std.specs.List.{list_any}
use Rattle.std.specs.Map.{values_of}
use Rattle.std.specs.BTreeMap.{values, IsOrdered, is_at}
use Rattle.std.specs.Ordering.{nat_cmp}
use Rattle.std.specs.Cmp.Lexicographic.{slice_cmp, on_texts}
use Rattle.std.specs.declared.alloc.Global.{Global}
use Rattle.std.proofs.lemmas.Bool.{cases_Bool}
use Rattle.std.proofs.lemmas.Option.{slice_get-map}
use Rattle.std.proofs.lemmas.Map.Entries.{btree_map_get_place, place_from_lookup}
use Rattle.std.proofs.lemmas.Map.Keys.{any_passes_from_place}
use Rattle.lg_session.specs.Names.{bound_at, is_of, IsReached}
use Rattle.lg_session.specs.declared.names.Bound.{Bound}
use Rattle.lg_session.specs.declared.names.Bound.TheVariants.{Weak, Array}
use Rattle.lg_session.specs.declared.names.Names.{Names}

-- an entry whose value passes a test
pub passing_place : {K X : Type 0} (test : X → Bool) (es : List (K × X)) → list_any test (values_of es) ≡ true
    → (i : ℕ) × (k : K) × (v : X) × (slice_get es i ≡ Some (k, v)) × (test v ≡ true)
passing_place test [] h = cc
passing_place test (e ∷ es) h =
    ⊎_elim
    (λ y. (0, e.0, e.1, refl, y))
    (λ n. let rest = passing_place test es (sym (ap (λ b. b || list_any test (values_of es)) n) ∙ h) in (suc rest.0, rest.1, rest.2, rest.3, rest.4))
    (cases_Bool (test e.1))

module _ (names : Names) (root : ℕ) (ordered : IsOrdered (λ (x y : Vec ℕ Global). slice_cmp nat_cmp x.items y.items) names.bounds) where
  of_view : (w : List ℕ) (v : Bound) → bound_at names w ≡ Some v → is_of root v ≡ true → IsReached names root
  of_view w (Weak x) bound is = cc
  of_view w (Array view) bound is = record { name = w; view = view; bound = bound; of_root = eqb-true view.root root is }

  pub reached_from_any : list_any (is_of root) (values names.bounds) ≡ true → IsReached names root
  reached_from_any h =
      let p = passing_place (is_of root) names.bounds.entries h in
      of_view p.1.items p.2 (btree_map_get_place (on_texts (λ (k : Vec ℕ Global). k.items)) names.bounds p.0 p.1 p.2 ordered p.3) p.4

  pub any_from_reached : IsReached names root → list_any (is_of root) (values names.bounds) ≡ true
  any_from_reached r =
      let p = place_from_lookup (is_at (λ (k : Vec ℕ Global). slice_cmp nat_cmp r.name k.items)) names.bounds.entries (Array r.view) r.bound in
      any_passes_from_place (is_of root) (values names.bounds) p.0 (Array r.view)
      (slice_get-map (λ (e : Vec ℕ Global × Bound). e.1) names.bounds.entries p.0 ∙ ap (option_map (λ (e : Vec ℕ Global × Bound). e.1)) p.2)
      (eq-eqb r.view.root root r.of_root)
